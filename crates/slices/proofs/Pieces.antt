-- The pieces of a kind: their ticks, how many they are, and the position at which each begins. One idea: exactly one of the three tests
-- of the order holds of a share above 0, so a job has one piece, and what stands before it is a sum over shares. Assumes nothing.
use mathlib.Core.Path.{◌≡◌, refl}
use mathlib.Core.Bool.{Bool, true, false, cond}
use mathlib.Core.List.{List, [], ◌∷◌}
use Prim.Native.Nat.{ℕ, zero, suc, ◌+◌, ◌≤◌, ◌<◌}
use native.Mathlib.Omega.{arith}
use lib.ListN.{length, get_or, take, length-append}
use Rattle.std.proofs.lemmas.Bool.Decides.{nat_tests}
use Rattle.rows.specs.Lists.{sum_of, count_of}
use Rattle.rows.specs.Numbered.{sum_below}
use Rattle.rows.proofs.Lists.{sum-append}
use Rattle.rows.proofs.Numbered.{below-first}
use Rattle.model.specs.Movers.{is_mover, movers}
use Rattle.model.specs.Split.{Ticks, share, ticks_on, ticks_of}
use Rattle.model.specs.declared.Kind.{Kind}
use Rattle.model.specs.declared.Kind.TheVariants.{First, Second}
use Rattle.model.proofs.Movers.{ticks_of_movers}
use Rattle.slices.specs.Table.{Piece, even_mover, other_mover, alone, chosen, pieces_of}
use Rattle.slices.proofs.Packs.{AllAt, total, ticks_for}

-- The ticks of a share on a kind if a test holds of it, and the share of a job.
abbrev pub part : (Ticks → Bool) → Kind → Ticks → ℕ
part test k s = cond (test s) (ticks_on k s) 0

abbrev pub share_at : List Ticks → ℕ → Ticks
share_at ss j = get_or ss j (share 0 0)

-- ---- the jobs of one test
module _ (test : Ticks → Bool) (k : Kind) where
  -- A sum over the pieces is one over the numbers of the jobs.
  pub chosen-below : (f : Piece → ℕ) (ss : List Ticks) → sum_of f (chosen test k 0 ss)
      ≡ sum_below (length ss) (λ (j : ℕ). cond (test (share_at ss j)) (f (record { job = j; ticks = ticks_on k (share_at ss j) })) 0)
  unfolding chosen
  chosen-below f ss = go 0 ss _ (λ n j e. let q : j ≡ n = omega arith in rw q)
    where
      go : (i : ℕ) (ss : List Ticks) (g : ℕ → ℕ)
          → ((n j : ℕ) → j ≡ i + n → cond (test (share_at ss n)) (f (record { job = j; ticks = ticks_on k (share_at ss n) })) 0 ≡ g n)
          → sum_of f (chosen test k i ss) ≡ sum_below (length ss) g
      go i [] g h = refl
      go i (s ∷ ss) g h =
          grind (
            arith,
            below-first g (length ss),
            h 0 i (omega arith),
            go (i + 1) ss (λ n. g (suc n)) (λ n j e. h (suc n) j (omega arith)),
          )

  pub chosen-total : (i : ℕ) (ss : List Ticks) → total (chosen test k i ss) ≡ sum_of (part test k) ss
  unfolding chosen
  chosen-total i [] = refl
  chosen-total i (s ∷ ss) = grind (arith, chosen-total (i + 1) ss)

  chosen-length : (i : ℕ) (ss : List Ticks) → length (chosen test k i ss) ≡ count_of test ss
  unfolding chosen
  chosen-length i [] = refl
  chosen-length i (s ∷ ss) = grind (arith, chosen-length (i + 1) ss)

  chosen_none : (job i : ℕ) (ss : List Ticks) → job < i → ticks_for job (chosen test k i ss) ≡ 0
  unfolding chosen
  chosen_none job i [] h = refl
  chosen_none job i (s ∷ ss) h = grind (arith, nat_tests, chosen_none job (i + 1) ss (omega arith))

  chosen-for : (job i n : ℕ) (ss : List Ticks) → job ≡ i + n → n < length ss
      → ticks_for job (chosen test k i ss) ≡ part test k (share_at ss n)
  unfolding chosen
  chosen-for job i n [] e h = absurd (omega arith)
  chosen-for job i zero (s ∷ ss) e h = grind (arith, nat_tests, chosen_none job (i + 1) ss (omega arith))
  chosen-for job i (suc n) (s ∷ ss) e h = grind (arith, nat_tests, chosen-for job (i + 1) n ss (omega arith) (omega arith))

  pub chosen_at : (P : ℕ → Piece → Type 0) (i o : ℕ) (ss : List Ticks)
      → ((n a j : ℕ) → n < length ss → j ≡ i + n → a ≡ o + sum_of (part test k) (take n ss) → test (share_at ss n) ≡ true
      → P a (record { job = j; ticks = ticks_on k (share_at ss n) }))
      → AllAt P o (chosen test k i ss)
  unfolding chosen
  chosen_at P i o [] f = tt
  chosen_at P i o (s ∷ ss) f =
      go (test s) refl
      (λ b e. chosen_at P (i + 1) b ss (λ n a j l ej ea t. f (suc n) a j (omega arith) (omega arith) (omega arith) t))
    where
      go : (t : Bool) → test s ≡ t → ((b : ℕ) → b ≡ o + part test k s → AllAt P b (chosen test k (i + 1) ss))
          → AllAt P o (chosen test k i (s ∷ ss))
      go true t more = rw t (f zero o i (omega arith) (omega arith) (omega arith) t, more (o + ticks_on k s) (rw t))
      go false t more = rw t (more o (rw t (omega arith)))

-- ---- the three tests together
-- A share above 0 on a kind is a mover's or is on this kind only: the two tests count any number that is 0 where the share is.
pub alone-whole : (k : Kind) (s : Ticks) (n : ℕ) → (ticks_on k s ≡ 0 → n ≡ 0) → cond (is_mover s) n 0 + cond (alone k s) n 0 ≡ n
alone-whole k s n none = grind (arith, nat_tests)

pub tests-whole : (k : Kind) (w : ℕ) (s : Ticks) (n : ℕ) → (ticks_on k s ≡ 0 → n ≡ 0)
    → cond (even_mover w s) n 0 + (cond (other_mover w s) n 0 + cond (alone k s) n 0) ≡ n
tests-whole k w s n none = grind (arith, nat_tests)

-- The same of the ticks of all shares.
pub movers-parts : (k : Kind) (w : ℕ) (ss : List Ticks)
    → sum_of (part (even_mover w) k) ss + sum_of (part (other_mover w) k) ss ≡ ticks_of_movers k ss
movers-parts k w [] = refl
movers-parts k w (s ∷ ss) = grind (arith, movers-parts k w ss)

pub alone-parts : (k : Kind) (ss : List Ticks) → ticks_of_movers k ss + sum_of (part (alone k) k) ss ≡ ticks_of k ss
alone-parts k [] = refl
alone-parts k (s ∷ ss) = grind (arith, nat_tests, alone-parts k ss)

module _ (k : Kind) (w : ℕ) (ss : List Ticks) where
  pub pieces-for : (job : ℕ) → job < length ss → ticks_for job (pieces_of k w ss) ≡ ticks_on k (share_at ss job)
  unfolding pieces_of
  pieces-for job h =
      let at : job ≡ 0 + job = omega arith in
      simp sum-append
      (omega (
        arith,
        chosen-for (even_mover w) k job 0 job ss at h,
        chosen-for (other_mover w) k job 0 job ss at h,
        chosen-for (alone k) k job 0 job ss at h,
        tests-whole k w (share_at ss job) (ticks_on k (share_at ss job)) (λ none. none),
      ))

  pub pieces-total : total (pieces_of k w ss) ≡ ticks_of k ss
  unfolding pieces_of
  pieces-total = simp (sum-append, chosen-total) (omega (arith, movers-parts k w ss, alone-parts k ss))

  pieces-count : length (pieces_of k w ss) ≡ count_of (even_mover w) ss + (count_of (other_mover w) ss + count_of (alone k) ss)
  unfolding pieces_of
  pieces-count = simp (length-append, chosen-length)

-- A job has a piece on a kind, and a mover one more.
pub pieces-few : (w : ℕ) (ss : List Ticks) → length (pieces_of First w ss) + length (pieces_of Second w ss) ≤ length ss + movers ss
pieces-few w ss = rw (pieces-count First w ss, pieces-count Second w ss) (counts ss)
  where
    counts : (ss : List Ticks) → count_of (even_mover w) ss + (count_of (other_mover w) ss + count_of (alone First) ss)
        + (count_of (even_mover w) ss + (count_of (other_mover w) ss + count_of (alone Second) ss)) ≤ length ss + movers ss
    counts [] = omega arith
    counts (s ∷ ss) = grind (arith, counts ss)

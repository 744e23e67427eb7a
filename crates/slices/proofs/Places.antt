-- The position at which the piece of a job begins, as a sum over shares. One idea: the movers stand in the same order on both kinds, and
-- all before one of them are even; so the positions of a mover on the two kinds add up to whole windows. Assumes nothing.
use mathlib.Core.Path.{◌≡◌, refl}
use mathlib.Core.Bool.{Bool, true, false, cond}
use mathlib.Core.List.{List, [], ◌∷◌, ◌++◌}
use Prim.Native.Nat.{ℕ, ◌+◌, ◌*◌, ◌≤◌, ◌<◌}
use native.Mathlib.Omega.{arith}
use lib.ListN.{length, take}
use Rattle.std.proofs.lemmas.Bool.Decides.{nat_tests}
use Rattle.rows.specs.Lists.{sum_of, count_of}
use Rattle.rows.proofs.Lists.{sum-take}
use Rattle.model.specs.Movers.{is_mover, is_even, unevens}
use Rattle.model.specs.Split.{Ticks, share, ticks_on}
use Rattle.model.specs.declared.Kind.{Kind}
use Rattle.model.specs.declared.Kind.TheVariants.{First, Second}
use Rattle.model.proofs.Movers.{mover-some, ticks_of_movers}
use Rattle.slices.specs.Table.{Piece, even_mover, other_mover, alone, chosen, pieces_of}
use Rattle.slices.proofs.Cuts.{edges}
use Rattle.slices.proofs.Packs.{AllAt, total, at-append, at-behind}
use Rattle.slices.proofs.Pieces.{part, share_at, chosen-total, chosen_at, movers-parts}

-- Where the piece of job j begins: behind the shares that stand before its own.
unfoldable pub offset : Kind → ℕ → List Ticks → ℕ → ℕ
offset k w ss j =
    cond (is_mover (share_at ss j))
    (cond (is_even w (share_at ss j)) (sum_of (part (even_mover w) k) (take j ss))
    (sum_of (part (even_mover w) k) ss + sum_of (part (other_mover w) k) (take j ss)))
    (sum_of (part (even_mover w) k) ss + sum_of (part (other_mover w) k) ss + sum_of (part (alone k) k) (take j ss))

-- The piece of a job on a kind, the edges of cores that its run passes there, and those that it passes on both kinds.
abbrev pub piece_at : Kind → List Ticks → ℕ → Piece
piece_at k ss j = record { job = j; ticks = ticks_on k (share_at ss j) }

abbrev pub cut_at : Kind → ℕ → List Ticks → ℕ → ℕ
cut_at k w ss j = edges w (offset k w ss j) (piece_at k ss j)

abbrev pub cuts_of : ℕ → List Ticks → ℕ → ℕ
cuts_of w ss j = cut_at First w ss j + cut_at Second w ss j

-- A piece, at a position, of a job of the set: it has all ticks of the job on the kind, and begins where the job's piece begins.
pub record Placed (k : Kind) (w : ℕ) (ss : List Ticks) (o : ℕ) (p : Piece) : Type 0 where
  pub job : p.job < length ss
  pub ticks : p.ticks ≡ ticks_on k (share_at ss p.job)
  pub some : 0 < p.ticks
  pub at : o ≡ offset k w ss p.job

mover-ticks : (k : Kind) (s : Ticks) → is_mover s ≡ true → 0 < ticks_on k s
mover-ticks First s m = (mover-some s m).0
mover-ticks Second s m = (mover-some s m).1

pub pieces-placed : (k : Kind) (w : ℕ) (ss : List Ticks) → AllAt (Placed k w ss) 0 (pieces_of k w ss)
unfolding pieces_of offset
pieces-placed k w ss =
    at-append P 0 evens (chosen (even_mover w) k 0 ss) (chosen (other_mover w) k 0 ss ++ chosen (alone k) k 0 ss)
    (omega (arith, chosen-total (even_mover w) k 0 ss)) (chosen_at (even_mover w) k P 0 0 ss even)
    (at-append P evens (evens + others) (chosen (other_mover w) k 0 ss) (chosen (alone k) k 0 ss)
    (omega (arith, chosen-total (other_mover w) k 0 ss)) (chosen_at (other_mover w) k P 0 evens ss other)
    (chosen_at (alone k) k P 0 (evens + others) ss lone))
  where
    P : ℕ → Piece → Type 0
    P = Placed k w ss

    evens : ℕ
    evens = sum_of (part (even_mover w) k) ss

    others : ℕ
    others = sum_of (part (other_mover w) k) ss

    placed : (n a j : ℕ) → n < length ss → j ≡ 0 + n → 0 < ticks_on k (share_at ss n) → a ≡ offset k w ss n
        → Placed k w ss a (record { job = j; ticks = ticks_on k (share_at ss n) })
    placed n a j l ej some at =
        let q : j ≡ n = omega arith in
        rw q (record { job = l; ticks = refl; some = some; at = at })

    -- What chosen_at asks of the jobs of a test.
    Case : (Ticks → Bool) → ℕ → Type 0
    Case test o =
        (n a j : ℕ) → n < length ss → j ≡ 0 + n → a ≡ o + sum_of (part test k) (take n ss) → test (share_at ss n) ≡ true
        → Placed k w ss a (record { job = j; ticks = ticks_on k (share_at ss n) })

    even : Case (even_mover w) 0
    even n a j l ej ea t = placed n a j l ej (grind (arith, mover-ticks k)) (grind (arith, nat_tests))

    other : Case (other_mover w) evens
    other n a j l ej ea t = placed n a j l ej (grind (arith, mover-ticks k)) (grind (arith, nat_tests))

    lone : Case (alone k) (evens + others)
    lone n a j l ej ea t = placed n a j l ej (grind (arith, nat_tests)) (grind (arith, nat_tests))

-- The jobs that are on this kind only stand behind the movers.
pub alone-placed : (k : Kind) (w : ℕ) (ss : List Ticks) → AllAt (Placed k w ss) (ticks_of_movers k ss) (chosen (alone k) k 0 ss)
unfolding pieces_of
alone-placed k w ss =
    let evens : List Piece = chosen (even_mover w) k 0 ss in
    let others : List Piece = chosen (other_mover w) k 0 ss in
    at-behind (Placed k w ss) (total evens) (ticks_of_movers k ss) others (chosen (alone k) k 0 ss)
    (omega (arith, movers-parts k w ss, chosen-total (even_mover w) k 0 ss, chosen-total (other_mover w) k 0 ss))
    (at-behind (Placed k w ss) 0 (total evens) evens (others ++ chosen (alone k) k 0 ss) (omega arith) (pieces-placed k w ss))

-- ---- the two kinds together
evens-whole : (w : ℕ) (ss : List Ticks)
    → sum_of (part (even_mover w) First) ss + sum_of (part (even_mover w) Second) ss ≡ count_of (even_mover w) ss * w
evens-whole w [] = omega arith
evens-whole w (s ∷ ss) = grind (arith, nat_tests, evens-whole w ss)

count_none : (test : Ticks → Bool) (k : Kind) (ss : List Ticks) → count_of test ss ≡ 0 → sum_of (part test k) ss ≡ 0
count_none test k [] h = refl
count_none test k (s ∷ ss) h = grind (arith, count_none test k ss)

pub offset-whole : (w : ℕ) (ss : List Ticks) (j : ℕ) → unevens w ss ≤ 1 → j < length ss → is_mover (share_at ss j) ≡ true
    → (n : ℕ) × (offset First w ss j + offset Second w ss j ≡ n * w)
unfolding offset
offset-whole w ss j one h m = go (is_even w (share_at ss j)) refl
  where
    go : (t : Bool) → is_even w (share_at ss j) ≡ t → (n : ℕ) × (offset First w ss j + offset Second w ss j ≡ n * w)
    go true e = (count_of (even_mover w) (take j ss), rw (m, e) (evens-whole w (take j ss)))
    go false e =
        let this : ◌≡◌ {A = ℕ} (cond (other_mover w (share_at ss j)) 1 0) 1 = rw (m, e) in
        let ahead : count_of (other_mover w) (take j ss) ≡ 0 =
        omega (arith, sum-take (λ (s : Ticks). cond (other_mover w s) 1 0) (share 0 0) ss j h) in (
          count_of (even_mover w) ss,
          rw (m, e)
              (omega (
                arith,
                evens-whole w ss,
                count_none (other_mover w) First (take j ss) ahead,
                count_none (other_mover w) Second (take j ss) ahead,
              )),
        )

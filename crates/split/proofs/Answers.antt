-- The answers of the code: what a refusal and shares say, where a call is lent the first rows of columns alone, and which of them the definition of
-- the split gives. Assumes nothing.
use mathlib.Core.Path.{◌≡◌, refl, sym, ap, ◌∙◌}
use mathlib.Core.List.{List, ◌++◌}
use Prim.Native.Nat.{ℕ, ◌≤◌, ◌<◌}
use native.Mathlib.Omega.{arith}
use borrow.Author.Tests.{le-ltb, lt-ltb}
use lib.ListN.{length, take, drop, replicate}
use lib.Seq.{length-take-le, drop_at}
use Rattle.std.specs.Prelude.{Result, Ok, Err, IsErrAnd}
use Rattle.std.proofs.lemmas.List.{get_or-take, get_or_append_left}
use Rattle.rows.proofs.Upto.{upto-same}
use Rattle.rows.proofs.Walk.{replicate-left}
use Rattle.model.specs.Columns.{jobs_in, shares_in}
use Rattle.model.specs.Limits.{jobs_most}
use Rattle.model.specs.Refusal.{Answer, given, says_refusal}
use Rattle.model.specs.Split.{Ticks}
use Rattle.model.specs.declared.Kind.TheVariants.{First, Second}
use Rattle.model.specs.declared.Job.{Job}
use Rattle.model.specs.declared.Refusal.{Refusal}
use Rattle.split.specs.Shares.{shares_seen, home_rows, home_ticks, both_over, relieved, by_over, split_of, Answers}
use Rattle.split.specs.declared.Shares.{Shares}

-- The jobs of the first n rows of two columns, which a call is lent alone.
pub jobs_cut : (n : ℕ) (c1 c2 : List ℕ) → n ≤ length c1 → jobs_in (length (take n c1)) (take n c1) (take n c2) ≡ jobs_in n c1 c2
jobs_cut n c1 c2 l = rw (length-take-le n c1 l) (upto-same n _ _ (λ i h. rw (get_or-take n c1 i 0 h, get_or-take n c2 i 0 h)))

module _ (w room1 room2 n : ℕ) (c1 c2 : List ℕ) (few : n ≤ jobs_most) (whole : n ≤ length c1) where
  abbrev answer : Answer (List Ticks)
  answer = split_of w room1 room2 (jobs_in n c1 c2)

  abbrev answer-cut : Answer (List Ticks)
  answer-cut = split_of w room1 room2 (jobs_in (length (take n c1)) (take n c1) (take n c2))

  -- Shares that were put into the first rows of columns of zeros.
  pub answers_shares : (s1 s2 : List ℕ) → length s1 ≡ n → length s2 ≡ n → given (shares_in (length (take n c1)) s1 s2) ≡ answer-cut
      → Answers answer (Ok (record { count = n; first = s1 ++ drop n (replicate jobs_most 0); second = s2 ++ drop n (replicate jobs_most 0) }))
  answers_shares s1 s2 size1 size2 is = record {
    says =
        ap given
        (upto-same n _ _ (λ i h. rw (get_or_append_left s1 _ 0 i (omega arith), get_or_append_left s2 _ 0 i (omega arith)))
        ∙ ap (λ (k : ℕ). shares_in k s1 s2) (sym (length-take-le n c1 whole)))
        ∙ is ∙ ap (split_of w room1 room2) (jobs_cut n c1 c2 whole);
    rest = record {
      few = few;
      rest1 = drop_at s1 _ n size1 ∙ replicate-left n jobs_most 0;
      rest2 = drop_at s2 _ n size2 ∙ replicate-left n jobs_most 0;
    };
  }

  pub answers_refusal : (r : Result Shares Refusal) (e : Refusal) → IsErrAnd r (λ (x : Refusal). x ≡ e) → says_refusal e ≡ answer-cut → Answers answer r
  answers_refusal (Ok s) e by is = absurd by
  answers_refusal (Err r) e by is = record { says = rw by (is ∙ ap (split_of w room1 room2) (jobs_cut n c1 c2 whole)); rest = tt }

-- Which answer the definition gives, by which kinds are over at home.
module _ (w room1 room2 : ℕ) (js : List Job) where
  pub split-both : room1 < home_ticks First js → room2 < home_ticks Second js → both_over ≡ split_of w room1 room2 js
  unfolding by_over
  split-both h t = rw (lt-ltb _ _ h, lt-ltb _ _ t)

  pub split-first : room1 < home_ticks First js → home_ticks Second js ≤ room2 → relieved First w room1 room2 js ≡ split_of w room1 room2 js
  unfolding by_over
  split-first h t = rw (lt-ltb _ _ h, le-ltb _ _ t)

  pub split-second : home_ticks First js ≤ room1 → room2 < home_ticks Second js → relieved Second w room2 room1 js ≡ split_of w room1 room2 js
  unfolding by_over
  split-second h t = rw (le-ltb _ _ h, lt-ltb _ _ t)

  pub split-home : home_ticks First js ≤ room1 → home_ticks Second js ≤ room2 → given (shares_seen First (home_rows First js)) ≡ split_of w room1 room2 js
  unfolding by_over
  split-home h t = rw (le-ltb _ _ h, le-ltb _ _ t)

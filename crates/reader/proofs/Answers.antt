-- What the lines of a text give, one behind the other: answers that give lists. Assumes nothing.
use mathlib.Core.List.{List, [], ◌++◌, append_assoc}
use mathlib.Core.Path.{◌≡◌, refl}
use Rattle.model.specs.Refusal.{Answer, given, refused, and_then}

pub and_then-assoc : {A B D : Type 0} (a : Answer A) (f : A → Answer B) (g : B → Answer D) → and_then a (λ (x : A). and_then (f x) g) ≡ and_then (and_then a f) g
and_then-assoc (given x) f g = refl
and_then-assoc (refused k p) f g = refl

module _ {A : Type 0} where
  -- A list behind another.
  abbrev pub onto : List A → Answer (List A) → Answer (List A)
  onto front a = and_then a (λ (xs : List A). given (front ++ xs))

  pub onto-none : (a : Answer (List A)) → onto [] a ≡ a
  onto-none (given xs) = refl
  onto-none (refused k p) = refl

  pub onto-more : (front here : List A) (a : Answer (List A)) → onto front (and_then a (λ (xs : List A). given (here ++ xs))) ≡ onto (front ++ here) a
  onto-more front here (given xs) = rw append_assoc
  onto-more front here (refused k p) = refl

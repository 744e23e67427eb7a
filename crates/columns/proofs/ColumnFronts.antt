-- The first numbers of a column. One idea: they are those that were put there, whatever stands behind them. Assumes nothing.
--   slices-take    the first slices of a column, by theirs
--   ticks-back     the ticks of the shares of two columns are the first numbers of the columns
--   shares-front   shares are read back from columns that have their ticks at the front
--   slices-front   slices are read back from a column that has their numbers at the front
--   shares-taken   the first numbers of two columns have the same shares by themselves
use mathlib.Core.Path.{◌≡◌, refl, ap, ◌∙◌}
use mathlib.Core.List.{List, [], ◌∷◌, ◌++◌, map}
use Prim.Native.Nat.{ℕ, zero, suc, ◌≤◌}
use native.Mathlib.Nat.{not-suc-le-zero, le_of_suc-le-suc}
use lib.ListN.{length, take}
use lib.Seq.{length-take-le}
use Rattle.std.proofs.lemmas.List.{append-nil}
use Rattle.rows.specs.Upto.{at}
use Rattle.rows.specs.Lists.{All}
use Rattle.rows.proofs.Upto.{upto-length, upto-map, upto_take}
use Rattle.model.specs.Board.{on}
use Rattle.model.specs.Columns.{shares_in}
use Rattle.model.specs.Packed.{pack_of, slice_in, slices_in}
use Rattle.model.specs.Terms.{Narrow}
use Rattle.model.specs.Split.{Ticks, share, ticks_on}
use Rattle.model.specs.declared.Kind.{Kind}
use Rattle.model.specs.declared.Kind.TheVariants.{First, Second}
use Rattle.model.specs.declared.Slice.{Slice}
use Rattle.model.proofs.Packed.{packed-back}

pub slices-take : (n : ℕ) (l : List ℕ) → n ≤ length l → slices_in n l ≡ take n (map slice_in l)
slices-take zero l h = refl
slices-take (suc n) [] h = absurd (not-suc-le-zero h)
slices-take (suc n) (x ∷ l) h = ap (λ (t : List Slice). slice_in x ∷ t) (slices-take n l (le_of_suc-le-suc h))

pub ticks-back : (k : Kind) (n : ℕ) (a b : List ℕ) → n ≤ length (on k a b) → map (ticks_on k) (shares_in n a b) ≡ take n (on k a b)
ticks-back First n a b h = upto-map (ticks_on First) n (λ i. share (at a i) (at b i)) ∙ upto_take n a h
ticks-back Second n a b h = upto-map (ticks_on Second) n (λ i. share (at a i) (at b i)) ∙ upto_take n b h

pub shares-front : (ss : List Ticks) (l m : List ℕ) → shares_in (length ss) (map (ticks_on First) ss ++ l) (map (ticks_on Second) ss ++ m) ≡ ss
shares-front [] l m = refl
shares-front (s ∷ ss) l m = ap (λ (t : List Ticks). s ∷ t) (shares-front ss l m)

pub slices-front : (ls : List Slice) (l : List ℕ) → All Narrow ls → slices_in (length ls) (map pack_of ls ++ l) ≡ ls
slices-front [] l narrow = refl
slices-front (s ∷ ls) l narrow = rw (packed-back s narrow.0, slices-front ls l narrow.1)

pub shares-taken : (n : ℕ) (a b : List ℕ) → n ≤ length a → n ≤ length b → shares_in (length (take n a)) (take n a) (take n b) ≡ shares_in n a b
shares-taken n a b fits1 fits2 =
    rw (length-take-le n a fits1)
    (rw (upto-length n (λ i. share (at a i) (at b i)), append-nil (map (ticks_on First) (shares_in n a b)), append-nil (map (ticks_on Second) (shares_in n a b)), ticks-back First n a b fits1, ticks-back Second n a b fits2) at
    (shares-front (shares_in n a b) [] []))

-- Rows without the near cost that they no longer need, which is what columns keep of them. One idea: the steps, and what is answered after them, do
-- not ask for the near cost of a row that cannot be moved, so that rows which are alike but for it (`Alike`) end alike. Assumes nothing.
use mathlib.Core.Path.{◌≡◌, refl, sym, ap, ◌∙◌}
use mathlib.Core.Bool.{Bool, true, false, cond}
use mathlib.Core.List.{List, [], ◌∷◌, map, map-map}
use Prim.Native.Nat.{ℕ, zero, suc, ◌+◌, ◌-◌}
use native.Mathlib.Omega.{arith}
use borrow.Author.Tests.{ltb-false}
use lib.Dec.{leb, ltb}
use lib.ListN.{set, get_or, length-map}
use Rattle.rows.specs.Upto.{at}
use Rattle.rows.proofs.Upto.{upto-same, upto-map}
use Rattle.model.specs.declared.Kind.{Kind}
use Rattle.split.specs.Home.{keep_of}
use Rattle.split.specs.Steps.{here_sum, there_sum, ahead, better, next_from, next_of, moved_of, step_of, steps_of}
use Rattle.split.specs.Columns.{row_at, row_in, rows_in, gone_to, bare, no_row, Movable, Ready}
use Rattle.split.specs.Shares.{share_of, shares_seen, settled}
use Rattle.split.specs.Rows.{Row, Next, Nobody, At}

bare-at : (a b h t : ℕ) → bare (row_at a b h t) ≡ row_at a b h t
bare-at a b h t = go (ltb 0 a) refl
  where
    go : (m : Bool) → ltb 0 a ≡ m → ◌≡◌ {A = Row} (record { near = cond m a 0; far = b; here = h; there = t; movable = ltb 0 a }) (row_at a b h t)
    go true e = refl
    go false e = let z : a ≡ 0 = omega (arith, ltb-false 0 a e) in rw z

pub rows-bare : (n : ℕ) (near far here there : List ℕ) → map bare (rows_in n near far here there) ≡ rows_in n near far here there
rows-bare n near far here there =
    upto-map bare n (row_in near far here there) ∙ upto-same n _ _ (λ i _. bare-at (at near i) (at far i) (at here i) (at there i))

bare-better : (x : Next) (i : ℕ) (r : Row) → better x i (bare r) ≡ better x i r
unfolding better
bare-better Nobody i r = go r.movable refl
  where
    go : (m : Bool) → r.movable ≡ m → cond r.movable (At i (bare r)) Nobody ≡ cond r.movable (At i r) Nobody
    go true e = rw e
    go false e = rw e
bare-better (At k s) i r = go r.movable refl
  where
    go : (m : Bool) → r.movable ≡ m → cond r.movable (cond (ahead (bare r) s) (At i (bare r)) (At k s)) (At k s) ≡ cond r.movable (cond (ahead r s) (At i r) (At k s)) (At k s)
    go true e = rw e
    go false e = rw e

bare-next : (x : Next) (i : ℕ) (rs : List Row) → next_from x i (map bare rs) ≡ next_from x i rs
unfolding next_from
bare-next x i [] = refl
bare-next x i (r ∷ rs) = bare-next (better x i (bare r)) (i + 1) rs ∙ ap (λ (y : Next). next_from y (i + 1) rs) (bare-better x i r)

pub bare-here : (rs : List Row) → here_sum (map bare rs) ≡ here_sum rs
bare-here [] = refl
bare-here (r ∷ rs) = ap (λ (n : ℕ). r.here + n) (bare-here rs)

pub bare-there : (rs : List Row) → there_sum (map bare rs) ≡ there_sum rs
bare-there [] = refl
bare-there (r ∷ rs) = ap (λ (n : ℕ). r.there + n) (bare-there rs)

pub bare_set : (rs : List Row) (i : ℕ) (v : Row) → map bare (set rs i v) ≡ set (map bare rs) i (bare v)
bare_set [] i v = refl
bare_set (r ∷ rs) zero v = refl
bare_set (r ∷ rs) (suc i) v = ap (λ (t : List Row). bare r ∷ t) (bare_set rs i v)

-- Rows that are the same but for near costs that are not needed.
abbrev pub Alike : List Row → List Row → Type 0
Alike rs ss = map bare rs ≡ map bare ss

alike-here : (rs ss : List Row) → Alike rs ss → here_sum rs ≡ here_sum ss
alike-here rs ss e = sym (bare-here rs) ∙ ap here_sum e ∙ bare-here ss

alike_next : (rs ss : List Row) → Alike rs ss → next_of rs ≡ next_of ss
alike_next rs ss e = sym (bare-next Nobody 0 rs) ∙ ap next_of e ∙ bare-next Nobody 0 ss

pub alike-steps : (n w room : ℕ) (rs ss : List Row) → Alike rs ss → Alike (steps_of n w room rs) (steps_of n w room ss)
unfolding steps_of step_of
alike-steps zero w room rs ss e = e
alike-steps (suc n) w room rs ss e =
    rw (alike-here rs ss e, alike_next rs ss e) (either (leb (here_sum ss) room) _ _ (alike-steps n w room _ _ (step (next_of ss))))
  where
    step : (x : Next) → Alike (step_of w room rs x) (step_of w room ss x)
    step Nobody = e
    step (At i r) = rw (bare_set rs i (moved_of w room (here_sum rs) r), bare_set ss i (moved_of w room (here_sum ss) r), e, alike-here rs ss e)

    either : (t : Bool) (x y : List Row) → Alike x y → Alike (cond t rs x) (cond t ss y)
    either true x y p = e
    either false x y p = p

pub bare-bare : (r : Row) → bare (bare r) ≡ bare r
bare-bare r = go r.movable refl
  where
    go : (m : Bool) → r.movable ≡ m → bare (bare r) ≡ bare r
    go true e = rw e
    go false e = rw e

-- A row that was moved.
pub moved-bare : (w room s a b : ℕ) → bare (gone_to w room s a b) ≡ row_at 0 b (gone_to w room s a b).here (gone_to w room s a b).there
unfolding moved_of
moved-bare w room s a b = either (leb room (s - a + keep_of w a b)) _ _ refl refl
  where
    either : (t : Bool) (x y : Row) → bare x ≡ row_at 0 b x.here x.there → bare y ≡ row_at 0 b y.here y.there
        → bare (cond t x y) ≡ row_at 0 b (cond t x y).here (cond t x y).there
    either true x y p q = p
    either false x y p q = q

-- ---- what does not ask for a near cost
pub shares-bare : (k : Kind) (rs : List Row) → shares_seen k (map bare rs) ≡ shares_seen k rs
shares-bare k rs = map-map (share_of k) bare rs

settled-bare : (k : Kind) (room away : ℕ) (rs : List Row) → settled k room away (map bare rs) ≡ settled k room away rs
unfolding settled
settled-bare k room away rs = rw (bare-here rs, bare-there rs, shares-bare k rs)

pub settled-alike : (k : Kind) (room away : ℕ) (rs ss : List Row) → Alike rs ss → settled k room away rs ≡ settled k room away ss
settled-alike k room away rs ss e = sym (settled-bare k room away rs) ∙ ap (settled k room away) e ∙ settled-bare k room away ss

get_or-bare : (rs : List Row) (i : ℕ) → get_or (map bare rs) i no_row ≡ bare (get_or rs i no_row)
get_or-bare [] i = refl
get_or-bare (r ∷ rs) zero = refl
get_or-bare (r ∷ rs) (suc i) = get_or-bare rs i

movable-bare : (w : ℕ) (r : Row) → r.movable ≡ true → Movable w r → Movable w (bare r)
movable-bare w r m h = record {
  some = rw m h.some;
  least = rw m h.least;
  fits = rw m h.fits;
  whole = rw m h.whole;
  bare = h.bare;
}

pub ready-bare : (w : ℕ) (rs : List Row) → Ready w rs → Ready w (map bare rs)
ready-bare w rs ready i l m =
    let e = get_or-bare rs i in
    let m' : (get_or rs i no_row).movable ≡ true = rw e at m in
    rw e (movable-bare w (get_or rs i no_row) m' (ready i (rw length-map at l) m'))

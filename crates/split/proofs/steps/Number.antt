-- One job in numbers: its far end and all between its ends is whole and fits the window. A job costs c here and d there, in a window w, and has t
-- ticks here between its ends. Where a difference stands in a product, a base form has a sum in its place. Assumes nothing.
use mathlib.Core.Path.{◌≡◌, ap}
use Prim.Native.Nat.{ℕ, ◌+◌, ◌*◌, ◌-◌, ◌/◌, ◌%◌, ◌≤◌, ◌<◌, min}
use native.Mathlib.Nat.{mul-le-mul_left, mul-div-le, lt-mul-div-succ, lt_of_mul-lt-mul_left}
use native.Mathlib.Omega.{arith}
use Rattle.std.proofs.lemmas.Grind.{div_ceil_times}
use Rattle.split.specs.Home.{ceil}

-- The quotient that is rounded up.
pub ceil-most : (x y : ℕ) → y * ceil x y ≤ x + (y - 1)
ceil-most x y = mul-div-le (x + (y - 1)) y

pub ceil-below : (x y z : ℕ) → 0 < y → x ≤ y * z → ceil x y ≤ z
ceil-below x y z pos h =
    let below : ceil x y < z + 1 = lt_of_mul-lt-mul_left y (omega (arith, ceil-most x y)) in
    omega arith

pub ceil-least : (x y : ℕ) → 0 < y → x ≤ y * ceil x y
ceil-least x y pos = omega (arith, lt-mul-div-succ (x + (y - 1)) pos)

-- It is what `div_ceil` of the library gives.
pub ceil_is : (x y : ℕ) → 0 < y → x / y + min 1 (x % y) ≡ ceil x y
ceil_is x y pos =
    let by = div_ceil_times x y pos in
    let less : x / y + min 1 (x % y) < ceil x y + 1 = lt_of_mul-lt-mul_left y (omega (arith, by, ceil-least x y pos)) in
    let more = ceil-below x y (x / y + min 1 (x % y)) pos (omega (arith, by)) in
    omega arith

-- What a stretched job keeps at its far end is at most its cost here.
pub keep-most : (c d w : ℕ) → c ≤ w → w < d → ceil (c * (d - w)) (d - c) ≤ c
keep-most c d w cw wd =
    ceil-below (c * (d - w)) (d - c) c (omega arith) (omega (arith, mul-le-mul_left {m = d - w} {n = d - c} c (omega arith)))

far-whole-eq : (c d w l m e f : ℕ) → d ≡ c + e → w ≡ l + m → d ≡ w + f → c * f ≤ e * l → c * d ≤ l * d + m * c
far-whole-eq c d w l m e f de wm df h =
    omega (arith, ap (λ (x : ℕ). l * x) de, ap (λ (x : ℕ). c * x) wm, ap (λ (x : ℕ). c * x) df)

-- The far end of a stretched job does its whole work.
pub far-whole : (c d w l : ℕ) → c ≤ w → w < d → l ≤ w → c * (d - w) ≤ (d - c) * l → c * d ≤ l * d + (w - l) * c
far-whole c d w l cw wd lw h =
    far-whole-eq c d w l (w - l) (d - c) (d - w) (omega arith) (omega arith) (omega arith) h

near-base : (t k e g : ℕ) → (t + k + e) * k ≤ (t + k) * (k + e + g)
near-base t k e g = omega arith

tight-base : (t k g f : ℕ) → (t + k) * f ≤ (g + f) * t → (t + k + g + f) * k ≤ (t + k) * (k + g)
tight-base t k g f h = omega arith

near-eq : (c d t k e g v : ℕ) → c ≡ t + k → d ≡ t + k + e → v ≡ k + e + g → d * k ≤ c * v
near-eq c d t k e g v ck dk vk = rw (ck, dk, vk) (near-base t k e g)

tight-eq : (c d t k e g f v : ℕ) → c ≡ t + k → d ≡ t + k + g + f → v ≡ k + g → e ≡ g + f → c * f ≤ e * t → d * k ≤ c * v
tight-eq c d t k e g f v ck dk vk ef h = rw (ck, dk, vk) (tight-base t k g f (rw (ck, ef) at h))

-- Between its ends, with t ticks here, a job that fits the window there fits it, and so does a stretched one.
pub near_fits : (c d w t : ℕ) → c ≤ d → d ≤ w → t ≤ c → d * (c - t) ≤ c * (w - t)
near_fits c d w t cd dw tc = near-eq c d t (c - t) (d - c) (w - d) (w - t) (omega arith) (omega arith) (omega arith)

pub tight-fits : (c d w t : ℕ) → c ≤ w → w < d → t ≤ c → c * (d - w) ≤ (d - c) * t → d * (c - t) ≤ c * (w - t)
tight-fits c d w t cw wd tc h =
    tight-eq c d t (c - t) (d - c) (w - c) (d - w) (w - t) (omega arith) (omega arith) (omega arith) (omega arith) h

part-eq : (c d t k u : ℕ) → c ≡ t + k → d * k ≤ c * u → c * d ≤ t * d + u * c
part-eq c d t k u ck h = omega (arith, ap (λ (x : ℕ). d * x) ck)

-- Between its ends a job does its whole work.
pub part-whole : (c d t : ℕ) → 0 < c → t ≤ c → c * d ≤ t * d + ceil (d * (c - t)) c * c
part-whole c d t pos tc =
    part-eq c d t (c - t) (ceil (d * (c - t)) c) (omega arith) (ceil-least (d * (c - t)) c pos)

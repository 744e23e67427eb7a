-- One job in numbers: what its whole work costs at least, at the prices p and q of a tick here and there. A job costs c here and d there, in a
-- window w; a split with n parts to a tick has a here and b there.
-- Each law is linear in products: a named combination of the hypotheses, divided by one factor. Where a difference stands in a product, a base
-- form has a sum in its place. Assumes nothing.
use mathlib.Core.Path.{◌≡◌, ap}
use Prim.Native.Nat.{ℕ, zero, suc, ◌+◌, ◌*◌, ◌-◌, ◌≤◌, ◌<◌}
use native.Mathlib.Nat.{mul-le-mul, mul-le-mul_left, le_of_mul-le-mul_left}
use native.Mathlib.Omega.{arith}
use Rattle.split.specs.Home.{ceil}
use Rattle.split.proofs.steps.Number.{ceil-most}

-- Ratios by cross products: a/b ≤ c/d and c/d ≤ e/f give a/b ≤ e/f.
pub ratio-trans : (a b c d e f : ℕ) → 0 < d → a * d ≤ b * c → c * f ≤ d * e → a * f ≤ b * e
ratio-trans a b c d e f pos h k =
    le_of_mul-le-mul_left {k = d} (omega (arith, mul-le-mul_left f h, mul-le-mul_left b k)) pos

-- A job whose cost here is the cheaper at the prices: its home here bounds every split.
pub home-bounds : (p q c d n a b : ℕ) → 0 < d → p * c ≤ q * d → n * c * d ≤ a * d + b * c → n * (p * c) ≤ p * a + q * b
home-bounds p q c d n a b pos cheap whole =
    le_of_mul-le-mul_left {k = d} (omega (arith, mul-le-mul_left b cheap, mul-le-mul_left p whole)) pos

-- What a stretched job at its far end gains at the dearer price: g is c * f of `far-base`.
far-gain : (q r c e l g n a u : ℕ) → 0 < e → n * g + c * u ≤ e * a → q * e ≤ r * c → e * l ≤ g + e
    → n * (r * l) + u * q ≤ r * a + n * r
far-gain q r c e l g n a u pos keeps dear up =
    le_of_mul-le-mul_left {k = e}
    (omega (arith, mul-le-mul_left r keeps, mul-le-mul_left u dear, mul-le-mul_left (n * r) up))
    pos

-- Costs c and c + e, prices q + r and q, window l + m, f what the far cost has above it, u what the split leaves of the window.
far-base : (q r c e l m f n a b u : ℕ) → 0 < e → c + e ≡ l + m + f → e * l ≤ c * f + e → q * (c + e) ≤ (q + r) * c
    → n * c * (c + e) ≤ a * (c + e) + b * c → a + b + u ≡ n * (l + m)
    → n * ((q + r) * l + q * m) ≤ (q + r) * a + q * b + n * (q + r)
far-base q r c e l m f n a b u pos df up cheap whole fits =
    let keeps : n * (c * f) + c * u ≤ e * a =
    omega (arith, ap (λ (x : ℕ). c * x) fits, ap (λ (x : ℕ). n * c * x) df) in
    let dear : q * e ≤ r * c = omega arith in
    let gain = far-gain q r c e l (c * f) n a u pos keeps dear up in
    omega (arith, gain, ap (λ (x : ℕ). q * x) fits)

far-eq : (p q c d w l n a b r e m f u : ℕ) → p ≡ q + r → d ≡ c + e → w ≡ l + m → d ≡ w + f → a + b + u ≡ n * w → 0 < e
    → e * l ≤ c * f + e → q * d ≤ p * c → n * c * d ≤ a * d + b * c → n * (p * l + q * m) ≤ p * a + q * b + n * p
far-eq p q c d w l n a b r e m f u pr de wm df fu pos up cheap whole =
    rw pr
    (far-base q r c e l m f n a b u pos (omega arith) up (rw (de, pr) at cheap) (rw de at whole) (rw wm at fu))

-- A stretched job that keeps l ticks at its far end: that end bounds every split but for one tick.
pub far-bounds : (p q c d w l n a b : ℕ) → c ≤ w → w < d → l ≤ w → (d - c) * l ≤ c * (d - w) + (d - c) → q ≤ p → q * d ≤ p * c
    → n * c * d ≤ a * d + b * c → a + b ≤ n * w → n * (p * l + q * (w - l)) ≤ p * a + q * b + n * p
far-bounds p q c d w l n a b cw wd lw up qp cheap whole fits =
    far-eq p q c d w l n a b (p - q) (d - c) (w - l) (d - w) (n * w - (a + b))
    (omega arith) (omega arith) (omega arith) (omega arith) (omega arith) (omega arith)
    up cheap whole

part-most-eq : (c d t k e u : ℕ) → c ≡ t + k → c * u ≤ d * k + e → d * t + c * u ≤ d * c + e
part-most-eq c d t k e u ck h = omega (arith, ap (λ (x : ℕ). d * x) ck)

-- A job between its ends, with t ticks here: at its own costs as prices, crossed, it costs what its work does but for the rounding.
pub part-most : (c d t : ℕ) → t ≤ c → d * t + c * ceil (d * (c - t)) c ≤ d * c + (c - 1)
part-most c d t tc =
    part-most-eq c d t (c - t) (c - 1) (ceil (d * (c - t)) c) (omega arith) (ceil-most (d * (c - t)) c)

-- A stretched job has a tick at home in every split.
pub stretched-some : (c d w n a b : ℕ) → 0 < c → w < d → 1 ≤ n → n * c * d ≤ a * d + b * c → a + b ≤ n * w → 1 ≤ a
stretched-some c d w n zero b pos wd some whole fits =
    absurd
    (omega (arith, mul-le-mul_left (n * c) wd, mul-le-mul_left c fits, mul-le-mul some pos))
stretched-some c d w n (suc a) b pos wd some whole fits = omega arith

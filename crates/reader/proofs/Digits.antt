-- The digits that a text begins with, and the bytes of its first line. The idea: the line is its digits where they end at its end, and then its bytes
-- are the pairs of digits; so the numbers of digits, two for a byte, are the numbers of bytes. Assumes nothing.
use mathlib.Core.Bool.{Bool, true, false, cond, not, ◌&&◌}
use mathlib.Core.List.{List, [], ◌∷◌}
use mathlib.Core.Path.{◌≡◌, refl, sym, ap, ◌∙◌}
use Prim.Native.Nat.{ℕ, zero, suc, ◌+◌, ◌-◌, ◌*◌, ◌/◌, ◌%◌, ◌≤◌, ◌<◌}
use native.Mathlib.Omega.{arith}
use borrow.Author.Tests.{eqb-true}
use lib.Dec.{eqb, eqb-suc-zero}
use lib.ListN.{length, take, drop, length-append, take-append-drop, length-drop}
use lib.Seq.{drop-drop, length-take-le, take-length}
use Rattle.std.specs.Prelude.{Option, None, Some, is_some}
use Rattle.std.specs.Bool.{then_some}
use Rattle.std.specs.List.{take_while}
use Rattle.std.proofs.lemmas.List.Sums.{take_while-cons}
use Rattle.std.proofs.lemmas.Bool.Decides.{nat_tests}
use Rattle.rows.specs.Lists.{All}
use Rattle.rows.proofs.Never.{never}
use Rattle.text.specs.Hex.{nibble_of, at_front, pairs_of, bytes_of, number_from, number_in}
use Rattle.reader.specs.Cut.{line_length, line_in, digit_then, digits_in, hex_from, hex_in, size_in}
use Rattle.reader.specs.Reader.{is_end}
use Rattle.reader.proofs.Lines.{line_length-fits}

-- A digit's value is below 16.
nibble_of-small : (b x : ℕ) → nibble_of b ≡ Some x → x ≤ 15
unfolding nibble_of
nibble_of-small b x e = grind (arith, nat_tests)

-- ---- the digits that a text begins with
-- Behind some of them stand the others.
digits-past : (bs : List ℕ) (m : ℕ) → digits_in (drop (length (take m (digits_in bs))) bs) ≡ drop m (digits_in bs)
unfolding digits_in
digits-past bs zero = refl
digits-past [] (suc m) = refl
digits-past (b ∷ bs) (suc m) = grind (arith, digits-past bs m)

pub digits-fit : (bs : List ℕ) → length (digits_in bs) ≤ length bs
unfolding digits_in
digits-fit [] = omega arith
digits-fit (b ∷ bs) = grind (arith, digits-fit bs)

pub digits-small : (bs : List ℕ) → All (λ (d : ℕ). d ≤ 15) (digits_in bs)
unfolding digits_in
digits-small [] = tt
digits-small (b ∷ bs) = go (digits-small bs) (nibble_of b) (nibble_of-small b)
  where
    go : All (λ (y : ℕ). y ≤ 15) (digits_in bs) → (d : Option ℕ) → ((x : ℕ) → d ≡ Some x → x ≤ 15) → All (λ (y : ℕ). y ≤ 15) (digit_then d (digits_in bs))
    go deep None small = tt
    go deep (Some x) small = (small x refl, deep)

-- By the first byte.
module _ {bs rest : List ℕ} {b : ℕ} (here : bs ≡ b ∷ rest) where
  pub digits-none : None ≡ nibble_of b → digits_in bs ≡ []
  unfolding digits_in
  digits-none e = rw (here, ← e)

  pub digits-one : {d : ℕ} → Some d ≡ nibble_of b → digits_in bs ≡ d ∷ digits_in rest
  unfolding digits_in
  digits-one e = rw (here, ← e)

-- How many they are.
pub digits-count : (bs : List ℕ) → length (take_while (λ b. is_some (nibble_of b)) bs) ≡ length (digits_in bs)
unfolding digits_in
digits-count [] = refl
digits-count (b ∷ bs) = rw take_while-cons (grind (arith, digits-count bs))

-- The slice of all bytes from a place on.
pub slice-rest : (n : ℕ) (bs : List ℕ) → take (length bs - n) (drop n bs) ≡ drop n bs
slice-rest n bs = rw (← length-drop n bs, take-length)

-- What stands behind all of them.
abbrev pub behind : List ℕ → List ℕ
behind bs = drop (length (digits_in bs)) bs

-- Behind some of them are the others, and the same behind those.
pub behind-some : (m : ℕ) (bs rest : List ℕ) → rest ≡ drop (length (take m (digits_in bs))) bs → (digits_in rest ≡ drop m (digits_in bs)) × (behind rest ≡ behind bs)
behind-some m bs rest e =
    let others : digits_in rest ≡ drop m (digits_in bs) = rw e (digits-past bs m) in
    let all : length (take m (digits_in bs)) + length (drop m (digits_in bs)) ≡ length (digits_in bs) =
    sym (length-append (take m (digits_in bs)) (drop m (digits_in bs))) ∙ ap length (take-append-drop m (digits_in bs)) in
    (others, rw (others, e, drop-drop, all))

-- ---- the first line and its digits
feed-none : (b : ℕ) → eqb b 10 ≡ true → nibble_of b ≡ None
unfolding nibble_of
feed-none b e = rw (eqb-true b 10 e)

-- The digits are the line's.
digits-line : (bs : List ℕ) → digits_in (line_in bs) ≡ digits_in bs
unfolding digits_in line_length
digits-line [] = refl
digits-line (b ∷ bs) = grind (arith, feed-none b, digits-line bs)

-- Whether all bytes of a line are digits.
unfoldable is_whole : List ℕ → Bool
is_whole [] = true
is_whole (b ∷ bs) = is_some (nibble_of b) && is_whole bs

-- They end at the line's end where all its bytes are digits.
digits-end : (bs : List ℕ) → is_end (drop (length (digits_in bs)) bs) ≡ is_whole (line_in bs)
unfolding digits_in line_length is_whole
digits-end [] = refl
digits-end (b ∷ bs) = grind (arith, feed-none b, digits-end bs)

whole_length : (l : List ℕ) → is_whole l ≡ true → length (digits_in l) ≡ length l
unfolding digits_in is_whole
whole_length [] e = refl
whole_length (b ∷ l) e = grind (arith, whole_length l)

-- Pairs of digits, each a byte. An odd digit is none.
unfoldable paired : List ℕ → Option (List ℕ)
paired [] = Some []
paired (h ∷ []) = None
paired (h ∷ l ∷ ds) = at_front (Some (16 * h + l)) (paired ds)

abbrev whole : Bool → Option (List ℕ) → Option (List ℕ)
whole t m = cond t m None

pairs-digits : (l : List ℕ) → pairs_of l ≡ whole (is_whole l) (paired (digits_in l))
unfolding pairs_of digits_in is_whole paired
pairs-digits [] = refl
pairs-digits (h ∷ []) = grind arith
pairs-digits (h ∷ l ∷ rest) = grind (arith, pairs-digits rest)

-- A line with no digits is none.
abbrev paired_some : List ℕ → Option (List ℕ)
paired_some [] = None
paired_some (d ∷ ds) = paired (d ∷ ds)

bytes-line : (l : List ℕ) → bytes_of l ≡ whole (is_whole l) (paired_some (digits_in l))
unfolding bytes_of digits_in is_whole
bytes-line [] = refl
bytes-line (b ∷ l) = pairs-digits (b ∷ l) ∙ grind arith

-- The bytes of the first line, by its digits and what stands behind them.
bytes-digits : (bs : List ℕ) → bytes_of (line_in bs) ≡ whole (is_end (drop (length (digits_in bs)) bs)) (paired_some (digits_in bs))
bytes-digits bs = rw (bytes-line (line_in bs), digits-line bs, digits-end bs)

paired-size : (ds : List ℕ) → size_in (paired ds) ≡ then_some (eqb (length ds % 2) 0) (length ds / 2)
unfolding paired
paired-size [] = refl
paired-size (h ∷ []) = refl
paired-size (h ∷ l ∷ ds) =
    let e : suc (suc (length ds)) % 2 ≡ length ds % 2 = omega arith in
    let f : suc (suc (length ds)) / 2 ≡ suc (length ds / 2) = omega arith in
    rw (e, f) (grind (arith, paired-size ds))

-- How many bytes the first line spells.
pub size-digits : (bs : List ℕ) → then_some (is_end (drop (length (digits_in bs)) bs) && (not (eqb (length (digits_in bs)) 0) && eqb (length (digits_in bs) % 2) 0)) (length (digits_in bs) / 2)
    ≡ size_in (bytes_of (line_in bs))
size-digits bs = rw (bytes-digits bs) (go (is_end (drop (length (digits_in bs)) bs)) (digits_in bs))
  where
    go : (t : Bool) (ds : List ℕ) → then_some (t && (not (eqb (length ds) 0) && eqb (length ds % 2) 0)) (length ds / 2) ≡ size_in (whole t (paired_some ds))
    go false ds = refl
    go true [] = refl
    go true (d ∷ ds) =
        rw eqb-suc-zero (sym (paired-size (d ∷ ds)))

-- ---- the numbers of a record
pub data Paired : List ℕ → List ℕ → Type 0 where
  end : Paired [] []
  pair : (h l : ℕ) {ds bs : List ℕ} → h ≤ 15 → l ≤ 15 → Paired ds bs → Paired (h ∷ l ∷ ds) ((16 * h + l) ∷ bs)

paired_is : (ds bs : List ℕ) → All (λ (d : ℕ). d ≤ 15) ds → paired ds ≡ Some bs → Paired ds bs
unfolding paired
paired_is [] [] small e = end
paired_is [] (b ∷ bs) small e = never (cc)
paired_is (h ∷ []) bs small e = never (cc)
paired_is (h ∷ l ∷ ds) bs small e = go (paired ds) (λ cs. paired_is ds cs small.1.1) e
  where
    go : (p : Option (List ℕ)) → ((cs : List ℕ) → p ≡ Some cs → Paired ds cs) → at_front (Some (16 * h + l)) p ≡ Some bs → Paired (h ∷ l ∷ ds) bs
    go None deep e = never (cc)
    go (Some cs) deep e =
        let is : bs ≡ (16 * h + l) ∷ cs = cc in
        rw is (pair h l small.0 small.1.0 (deep cs refl))

pub paired-small : {ds bs : List ℕ} → Paired ds bs → All (λ (b : ℕ). b < 256) bs
paired-small end = tt
paired-small (pair h l hs ls p) = (omega arith, paired-small p)

paired-from : {ds bs : List ℕ} → Paired ds bs → (n : ℕ) → hex_from n ds ≡ number_from n bs
unfolding hex_from number_from
paired-from end n = refl
paired-from (pair h l hs ls p) n =
    let e : 16 * (16 * n + h) + l ≡ 256 * n + (16 * h + l) = omega arith in
    rw e (paired-from p (256 * n + (16 * h + l)))

twice : (k : ℕ) → suc k + suc k ≡ suc (suc (k + k))
twice k = omega arith

paired-take : {ds bs : List ℕ} → Paired ds bs → (k : ℕ) → Paired (take (k + k) ds) (take k bs)
paired-take p zero = end
paired-take end (suc k) = rw (twice k) end
paired-take (pair h l {ds = ds} {bs = bs} hs ls p) (suc k) = rw (twice k) (pair h l hs ls (paired-take {ds = ds} {bs = bs} p k))

paired-drop : {ds bs : List ℕ} → Paired ds bs → (k : ℕ) → Paired (drop (k + k) ds) (drop k bs)
paired-drop p zero = p
paired-drop end (suc k) = rw (twice k) end
paired-drop (pair h l {ds = ds} {bs = bs} hs ls p) (suc k) = rw (twice k) (paired-drop {ds = ds} {bs = bs} p k)

-- Bytes j to j + k - 1 spell what their digits spell.
pub paired-number : {ds bs : List ℕ} → Paired ds bs → (k j : ℕ) → hex_in (take (k + k) (drop (j + j) ds)) ≡ number_in (take k (drop j bs))
paired-number p k j = paired-from (paired-take (paired-drop p j) k) 0

-- Of a first line that spells a record: it is its digits, two for each byte.
module _ (bs : List ℕ) {rec : List ℕ} (is : bytes_of (line_in bs) ≡ Some rec) where
  pub line-ends : line_length bs ≡ length (digits_in bs)
  line-ends = go (is_whole (line_in bs)) refl (rw (bytes-digits bs, digits-end bs) at is)
    where
      go : (t : Bool) → is_whole (line_in bs) ≡ t → whole t (paired_some (digits_in bs)) ≡ Some rec → line_length bs ≡ length (digits_in bs)
      go true e h = sym (length-take-le (line_length bs) bs (line_length-fits bs)) ∙ sym (whole_length (line_in bs) e) ∙ ap length (digits-line bs)
      go false e h = never (cc)

  pub record-paired : Paired (digits_in bs) rec
  record-paired = go (is_end (drop (length (digits_in bs)) bs)) (digits_in bs) (digits-small bs) (rw (bytes-digits bs) at is)
    where
      go : (t : Bool) (ds : List ℕ) → All (λ (d : ℕ). d ≤ 15) ds → whole t (paired_some ds) ≡ Some rec → Paired ds rec
      go false ds small h = never (cc)
      go true [] small h = never (cc)
      go true (d ∷ ds) small h = paired_is (d ∷ ds) rec small h

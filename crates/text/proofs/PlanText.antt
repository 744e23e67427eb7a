-- The text of a plan: its length, and that its lines are stored one kind behind the other. The one idea: lines that are joined are joined texts.
-- Assumes nothing.
use Rattle.std.proofs.Common.{◌≡◌, refl, ◌∙◌, List, [], ◌∷◌, ◌++◌, map, append_assoc, ℕ, ◌+◌, ◌*◌, arith, length, length-append, add-zero, zero-add, mul-add, take, drop, length-take, length-drop, ◌≤◌, ◌-◌}
use Rattle.std.proofs.lemmas.List.{append-nil, map-append, get_or-take, length-take-le}
use Rattle.std.proofs.lemmas.Slice.{take-put_mid}
use borrow.Rule.Slice.PartMut.{put_mid}
use lib.Seq.{drop-drop, take_at, drop_at}
use Rattle.rows.specs.Upto.{upto, at}
use Rattle.rows.proofs.Upto.{upto-length, upto-more, upto-same}
use Rattle.model.specs.Columns.{shares_in}
use Rattle.model.specs.Packed.{slice_in, slices_in}
use Rattle.model.specs.Split.{Ticks, share}
use Rattle.model.specs.declared.Slice.{Slice}
use Rattle.text.specs.Hex.{digits_of, line_of, text_of}
use Rattle.text.specs.Records.{counts_form, share_form, slice_form, line_size}
use Rattle.text.specs.Output.{count_record, share_record, share_records, slice_record, plan_text}

text-append : (rs qs : List (List ℕ)) → text_of (rs ++ qs) ≡ text_of rs ++ text_of qs
unfolding text_of
text-append [] qs = refl
text-append (r ∷ rs) qs = simp (text-append rs qs, append_assoc)

-- one line more
text-more : (rs : List (List ℕ)) (r : List ℕ) → text_of (rs ++ r ∷ []) ≡ text_of rs ++ line_of r
unfolding text_of
text-more rs r = rw (text-append rs (r ∷ []), append-nil)

-- one line more behind those that a text begins with, each of m bytes
pub line_put : (m i : ℕ) (text lines line : List ℕ) → take (m * i) text ≡ lines → m * i + m ≤ length text
    → length line ≡ length (take (m * i + m - m * i) (drop (m * i) text))
    → take (m * (i + 1)) (put_mid (m * i) (m * i + m - m * i) text line) ≡ lines ++ line
line_put m i text lines line are room long =
    let whole : length line ≡ m = long ∙ simp (length-take, length-drop) (omega arith) in
    rw (take-put_mid (m * i) (m * i + m - m * i) text line (m * (i + 1)) (simp mul-add (omega arith)) (omega arith), are)

share_records-append : (i : ℕ) (ss qs : List Ticks) → share_records i (ss ++ qs) ≡ share_records i ss ++ share_records (i + length ss) qs
unfolding share_records
share_records-append i [] qs = rw add-zero
share_records-append i (s ∷ ss) qs =
    let behind : i + 1 + length ss ≡ i + length (s ∷ ss) = omega arith in
    rw (share_records-append (i + 1) ss qs, behind)

pub shares_more : (n : ℕ) (first second : List ℕ)
    → text_of (share_records 0 (shares_in (n + 1) first second)) ≡ text_of (share_records 0 (shares_in n first second)) ++ line_of (share_record n (share (at first n) (at second n)))
unfolding share_records
shares_more n first second =
    let f = λ (i : ℕ). share (at first i) (at second i) in
    rw (upto-more n f, share_records-append 0 (upto n f) (f n ∷ []), upto-length n f, zero-add) (text-more (share_records 0 (upto n f)) (share_record n (f n)))

pub slices_more : (n : ℕ) (column : List ℕ)
    → text_of (map slice_record (slices_in (n + 1) column)) ≡ text_of (map slice_record (slices_in n column)) ++ line_of (slice_record (slice_in (at column n)))
slices_more n column =
    let f = λ (i : ℕ). slice_in (at column i) in
    rw (upto-more n f, map-append) (text-more (map slice_record (upto n f)) (slice_record (f n)))

-- the first rows of columns
shares_front : (n : ℕ) (first second : List ℕ) → n ≤ length first
    → shares_in (length (take n first)) (take n first) (take n second) ≡ shares_in n first second
shares_front n first second fits =
    rw (length-take-le n first fits)
    (upto-same n _ _ (λ i below. rw (get_or-take n first i 0 below, get_or-take n second i 0 below)))

slices_front : (n : ℕ) (column : List ℕ) → n ≤ length column → slices_in (length (take n column)) (take n column) ≡ slices_in n column
slices_front n column fits =
    rw (length-take-le n column fits) (upto-same n _ _ (λ i below. rw (get_or-take n column i 0 below)))

put_behind : (i k : ℕ) (xs ys zs : List ℕ) → length xs ≡ i → put_mid i k (xs ++ ys) zs ≡ xs ++ (zs ++ drop k ys)
put_behind i k xs ys zs is = rw (take_at xs ys i is, drop_at xs ys i is)

-- three runs of bytes that are stored one behind the other, the second up to m and the third up to n
stored : (text a b c : List ℕ) (l m n : ℕ) → length a ≡ l → l + length b ≡ m → m + length c ≡ n
    → put_mid m (n - m) (put_mid l (m - l) (a ++ drop l text) b) c ≡ a ++ (b ++ c) ++ drop n text
stored text a b c l m n at-l at-m at-n =
    let both : length (a ++ b) ≡ m = omega (arith, length-append a b) in
    let to-n : l + (m - l + (n - m)) ≡ n = omega arith in
    rw (
      put_behind l _ a _ b at-l,
      ← append_assoc a b (drop (m - l) (drop l text)),
      put_behind m _ (a ++ b) _ c both,
      drop-drop (n - m) (m - l),
      drop-drop (m - l + (n - m)) l text,
      to-n,
    )
    (simp append_assoc)

shares-length : (i : ℕ) (ss : List Ticks) → length (text_of (share_records i ss)) ≡ line_size share_form * length ss
unfolding digits_of text_of share_records
shares-length i [] = refl
shares-length i (s ∷ ss) = omega (arith, shares-length (i + 1) ss)

slices-length : (rows : List Slice) → length (text_of (map slice_record rows)) ≡ line_size slice_form * length rows
unfolding digits_of text_of
slices-length [] = refl
slices-length (s ∷ rows) = omega (arith, slices-length rows)

-- of so many shares and rows
pub plan-length : (ss : List Ticks) (rows : List Slice) (n k : ℕ) → length ss ≡ n → length rows ≡ k
    → length (plan_text ss rows) ≡ line_size counts_form + line_size share_form * n + line_size slice_form * k
unfolding digits_of text_of
plan-length ss rows n k n-long k-long =
    rw (text-append (share_records 0 ss) (map slice_record rows), length-append (text_of (share_records 0 ss)))
    (omega (arith, shares-length 0 ss, slices-length rows))

-- the same of columns
pub plan_long : (first second slices : List ℕ) (n k : ℕ)
    → length (plan_text (shares_in n first second) (slices_in k slices)) ≡ line_size counts_form + line_size share_form * n + line_size slice_form * k
plan_long first second slices n k = plan-length (shares_in n first second) (slices_in k slices) n k (upto-length n _) (upto-length k _)

-- the lines of the counts, of the first shares and of the first slices, put one behind the other at the front of a text
pub plan_put : (first second slices text line shares rows : List ℕ) (n k : ℕ) → n ≤ length first → k ≤ length slices
    → line ≡ line_of (count_record n k)
    → shares ≡ text_of (share_records 0 (shares_in (length (take n first)) (take n first) (take n second)))
    → rows ≡ text_of (map slice_record (slices_in (length (take k slices)) (take k slices)))
    → let l = line_size counts_form in
    let m = l + line_size share_form * n in
    let s = m + line_size slice_form * k in
    put_mid m (s - m) (put_mid l (m - l) (line ++ drop l text) shares) rows ≡ plan_text (shares_in n first second) (slices_in k slices) ++ drop s text
unfolding digits_of text_of
plan_put first second slices text line shares rows n k within inside is are be =
    let ss = shares_in n first second in
    let qs = slices_in k slices in
    let ss-long : length ss ≡ n = upto-length n _ in
    let qs-long : length qs ≡ k = upto-length k _ in
    let l = line_size counts_form in
    let m = l + line_size share_form * n in
    rw (
      is,
      are,
      be,
      shares_front n first second within,
      slices_front k slices inside,
      stored text (line_of (count_record n k)) (text_of (share_records 0 ss)) (text_of (map slice_record qs)) l m (m + line_size slice_form * k) refl (omega (arith, shares-length 0 ss)) (omega (arith, slices-length qs)),
      text-append (share_records 0 ss) (map slice_record qs),
      ss-long,
      qs-long,
    )

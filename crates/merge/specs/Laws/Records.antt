-- Records that stand in a store: which they are, how long, what is in them, and that records
-- written are read back. For the proofs of the code, of this crate and of those above. Assumes
-- nothing.
use Rattle.std.specs.Prelude.{◌≡◌, refl, ℕ, zero, suc, ◌+◌, ◌-◌, ◌*◌, ◌/◌, ◌^◌, ◌<◌, ◌≤◌, List, [], ◌∷◌, ◌++◌, Bool, true, false, cond, ◌&&◌, T, Float, length, get_or, take, drop}
use Rattle.std.proofs.Common.{sym, ap, ap₂, ◌∙◌, subst, arith, add-one, le-div_iff_mul-le, add-zero, zero-add, suc-add, add-suc, suc-mul, zero-mul, mul-one, mul-le-mul_right, mul-le-mul_left, lt_of_mul-lt-mul_right, le_of_mul-le-mul_right, le_trans, le_refl, add_assoc, append_assoc, append-nil, length-take, length-drop, length-append, take-append-drop, drop_of_length-le, take-take, take_at, drop_at, drop-cons, get_or-take, get_or-drop, get_or-append-add, length-take-le}
use Rattle.std.specs.Float.{binary64}
use Rattle.std.specs.Float.Ieee.{of_bits, to_bits}
use Rattle.std.specs.Float.Ieee.Scale.{finite}
use Rattle.std.proofs.lemmas.List.Edits.{sets}
use Rattle.amplitudes.specs.declared.Complex.{Complex}
use Rattle.amplitudes.specs.Amplitudes.{finite_c, FitsC}
use Rattle.amplitudes.proofs.Laws.{pattern-back, float_back, moderate-finite-amplitude}
use Rattle.amplitudes.specs.Moderate.{moderate, moderate_c}
use Rattle.keys.specs.Keys.{bit_at, key_at, Words}
use Rattle.keys.specs.Laws.{sets-start, bit-take, length-toggle}
use Rattle.keys.specs.Lists.{All, all_right, all-at, and-true-l, and_true_r}
use Rattle.merge.specs.Records.{capacity, record_at, record_from, counted, part, flat, key_of, record_bit, new_key, amplitude_of, finite_record, moderate_record, Entry, decode, encode}

-- ---- the records i .. e

-- there are none from the end on, and elsewhere a first one and the others
pub part_none : (n : ℕ) (ws : List ℕ) (i e : ℕ) → e ≤ i → part n ws i e ≡ []
unfolding part counted
part_none n ws i e h = let z : e - i ≡ 0 = omega arith in rw z

pub part-some : (n : ℕ) (ws : List ℕ) (i e : ℕ) → i < e → part n ws i e ≡ record_at n ws i ∷ part n ws (i + 1) e
unfolding part counted
part-some n ws i e h = let z : e - i ≡ suc (e - suc i) = omega arith in rw (z, add-one)

-- c records and the d after them
counted-append : (n : ℕ) (ws : List ℕ) (i c d : ℕ) → counted n ws i c ++ counted n ws (i + c) d ≡ counted n ws i (c + d)
unfolding counted
counted-append n ws i zero d = rw (add-zero, zero-add)
counted-append n ws i (suc c) d =
    rw (suc-add, add-suc, ← suc-add) (ap (λ (l : List (List ℕ)). record_at n ws i ∷ l) (counted-append n ws (suc i) c d))

-- two parts of a store that meet are one
pub part-append : (n : ℕ) (ws : List ℕ) (i k e : ℕ) → i ≤ k → k ≤ e → part n ws i k ++ part n ws k e ≡ part n ws i e
unfolding part
part-append n ws i k e h l =
    let a : i + (k - i) ≡ k = omega arith in
    let b : (k - i) + (e - k) ≡ e - i = omega arith in
    ap (λ (m : ℕ). counted n ws i (k - i) ++ counted n ws m (e - k)) (sym a) ∙ counted-append n ws i (k - i) (e - k) ∙ ap (counted n ws i) b

-- a part around one of its records
pub part-around : (n : ℕ) (ws : List ℕ) (i k e : ℕ) → i ≤ k → k < e → part n ws i e ≡ part n ws i k ++ (record_at n ws k ∷ part n ws (k + 1) e)
part-around n ws i k e h l = sym (ap (λ (rs : List (List ℕ)). part n ws i k ++ rs) (sym (part-some n ws k e l)) ∙ part-append n ws i k e h (omega arith))

-- how many there are
counted-length : (n : ℕ) (ws : List ℕ) (i c : ℕ) → length (counted n ws i c) ≡ c
unfolding counted
counted-length n ws i zero = refl
counted-length n ws i (suc c) = ap suc (counted-length n ws (suc i) c)

pub part_length : (n : ℕ) (ws : List ℕ) (i e : ℕ) → length (part n ws i e) ≡ e - i
unfolding part
part_length n ws i e = counted-length n ws i (e - i)

-- what holds of every record of a part holds of its first, and of every later one
pub all-part : (P : List ℕ → Type 0) (n : ℕ) (ws : List ℕ) (i e : ℕ) → i < e → All P (part n ws i e) → P (record_at n ws i) × All P (part n ws (i + 1) e)
all-part P n ws i e h f = rw (part-some n ws i e h) at f

-- and of each
pub part-each : (P : List ℕ → Type 0) (n : ℕ) (ws : List ℕ) (i r e : ℕ) → i ≤ r → r < e → All P (part n ws i e) → P (record_at n ws r)
part-each P n ws i r e h l f = (all_right P (part n ws i r) (record_at n ws r ∷ part n ws (r + 1) e) (subst (All P) (part-around n ws i r e h l) f)).0

counted-every : (P : List ℕ → Type 0) (n : ℕ) (ws : List ℕ) (i c : ℕ) → ((r : ℕ) → i ≤ r → r < i + c → P (record_at n ws r)) → All P (counted n ws i c)
unfolding counted
counted-every P n ws i zero f = tt
counted-every P n ws i (suc c) f = (f i (omega arith) (omega arith), counted-every P n ws (suc i) c (λ r h l. f r (omega arith) (omega arith)))

pub part-every : (P : List ℕ → Type 0) (n : ℕ) (ws : List ℕ) (i e : ℕ) → ((r : ℕ) → i ≤ r → r < e → P (record_at n ws r)) → All P (part n ws i e)
unfolding part
part-every P n ws i e f = counted-every P n ws i (e - i) (λ r h l. f r h (omega arith))

-- ---- one record

-- record k is below record m; records are no more than their words
pub record-below : (n k m : ℕ) → k < m → k * (n + 2) + (n + 2) ≤ m * (n + 2)
record-below n k m h = subst (λ (w : ℕ). w ≤ m * (n + 2)) (suc-mul k (n + 2)) (mul-le-mul_right (n + 2) h)

pub fewer-records : (n m : ℕ) → m ≤ m * (n + 2)
fewer-records n m = subst (λ (k : ℕ). k ≤ m * (n + 2)) (mul-one m) (mul-le-mul_left m (omega arith))

-- records by the words that they begin at: what is below the end, and what is not
pub below_end : (n i e x end : ℕ) → x ≡ i * (n + 2) → end ≡ e * (n + 2) → x < end → i < e
below_end n i e x end p r h = lt_of_mul-lt-mul_right (n + 2) (rw (← p, ← r) h)

pub past_end : (n i e x end : ℕ) → x ≡ i * (n + 2) → end ≡ e * (n + 2) → end ≤ x → e ≤ i
past_end n i e x end p r h = le_of_mul-le-mul_right {m = e} {n = i} {k = n + 2} (rw (← p, ← r) h) (omega arith)

-- a record below e is whole where e records fit
pub record-fits : (n r e : ℕ) (ws : List ℕ) → r < e → e * (n + 2) ≤ length ws → r * (n + 2) + (n + 2) ≤ length ws
record-fits n r e ws h l = le_trans (record-below n r e h) l

-- as many records as a store has room for, and no more, fit into it
pub capacity-is : (n : ℕ) (ws : List ℕ) → capacity n ws ≡ length ws / (n + 2)
unfolding capacity
capacity-is n ws = refl

pub capacity-room : (n m : ℕ) (ws : List ℕ) → m ≤ capacity n ws → m * (n + 2) ≤ length ws
unfolding capacity
capacity-room n m ws h = (le-div_iff_mul-le {k = n + 2} {x = m} {y = length ws} (omega arith)).0 h

pub room-capacity : (n m : ℕ) (ws : List ℕ) → m * (n + 2) ≤ length ws → m ≤ capacity n ws
unfolding capacity
room-capacity n m ws h = (le-div_iff_mul-le {k = n + 2} {x = m} {y = length ws} (omega arith)).1 h

pub record-length : (n r : ℕ) (ws : List ℕ) → r * (n + 2) + (n + 2) ≤ length ws → length (record_at n ws r) ≡ n + 2
unfolding record_at
record-length n r ws h = simp (length-take, length-drop) (omega arith)

-- record r begins at word r · (n + 2); its key, a bit of that, and any word are the store's
pub record-from : (n r at : ℕ) (ws : List ℕ) → at ≡ r * (n + 2) → record_from n ws at ≡ record_at n ws r
unfolding record_at
record-from n r at ws e = ap (record_from n ws) e

pub from-word : (n at k : ℕ) (ws : List ℕ) → k < n + 2 → get_or (record_from n ws at) k 0 ≡ get_or ws (at + k) 0
from-word n at k ws h = rw (get_or-take, get_or-drop)

pub from_key : (n at : ℕ) (ws : List ℕ) → key_of n (record_from n ws at) ≡ key_at n ws at
from_key n at ws = take-take n (n + 2) (drop at ws) (omega arith)

pub from-bit : (n q at : ℕ) (ws : List ℕ) → q / 64 < n → bit_at q (drop at ws) ≡ record_bit n q (record_from n ws at)
from-bit n q at ws h = sym (ap (bit_at q) (from_key n at ws) ∙ bit-take q n (drop at ws) h)

pub from-length : (n at : ℕ) (ws : List ℕ) → at + (n + 2) ≤ length ws → length (record_from n ws at) ≡ n + 2
from-length n at ws h = simp (length-take, length-drop) (omega arith)

pub record-key : (n r : ℕ) (ws : List ℕ) → key_of n (record_at n ws r) ≡ key_at n ws (r * (n + 2))
unfolding record_at
record-key n r ws = take-take n (n + 2) (drop (r * (n + 2)) ws) (omega arith)

pub record-bit : (n q r : ℕ) (ws : List ℕ) → q / 64 < n → bit_at q (drop (r * (n + 2)) ws) ≡ record_bit n q (record_at n ws r)
record-bit n q r ws h = sym (ap (bit_at q) (record-key n r ws) ∙ bit-take q n (drop (r * (n + 2)) ws) h)

-- its amplitude, and whether that is finite or moderate, by the patterns in the store
pub from-amplitude : (n at : ℕ) (ws : List ℕ) → amplitude_of n (record_from n ws at) ≡ record { re = of_bits binary64 (get_or ws (at + n) 0); im = of_bits binary64 (get_or ws (at + n + 1) 0) }
unfolding amplitude_of
from-amplitude n at ws = rw (from-word n at n ws (omega arith), from-word n at (n + 1) ws (omega arith), ← add_assoc at n 1)

pub from-finite : (n at : ℕ) (ws : List ℕ) → finite_record n (record_from n ws at) ≡ (finite (of_bits binary64 (get_or ws (at + n) 0)) && finite (of_bits binary64 (get_or ws (at + n + 1) 0)))
unfolding finite_record
from-finite n at ws = ap finite_c (from-amplitude n at ws)

pub from-moderate : (n at : ℕ) (ws : List ℕ) → moderate_record n (record_from n ws at) ≡ (moderate (of_bits binary64 (get_or ws (at + n) 0)) && moderate (of_bits binary64 (get_or ws (at + n + 1) 0)))
unfolding moderate_record
from-moderate n at ws = ap moderate_c (from-amplitude n at ws)

-- a record is finite where its amplitude is, and so with moderate; what is moderate is finite
pub finite-amplitude : (n : ℕ) (r : List ℕ) → finite_record n r ≡ finite_c (amplitude_of n r)
unfolding finite_record
finite-amplitude n r = refl

pub moderate-amplitude : (n : ℕ) (r : List ℕ) → moderate_record n r ≡ moderate_c (amplitude_of n r)
unfolding moderate_record
moderate-amplitude n r = refl

pub moderate-record : (n : ℕ) (r : List ℕ) → moderate_record n r ≡ true → finite_record n r ≡ true
unfolding finite_record
moderate-record n r e = moderate-finite-amplitude (amplitude_of n r) (sym (moderate-amplitude n r) ∙ e)

-- ---- lengths of what is written

-- a key's; that of a new entry's key; an entry's
pub record-key-length : (n : ℕ) (r : List ℕ) → length r ≡ n + 2 → length (key_of n r) ≡ n
record-key-length n r e = length-take-le n r (omega arith)

pub new-key-length : (n q : ℕ) (t : Bool) (r : List ℕ) → length r ≡ n + 2 → length (new_key n q t r) ≡ n
new-key-length n q true r e = length-toggle q (key_of n r) ∙ record-key-length n r e
new-key-length n q false r e = record-key-length n r e

pub encode-length : (n : ℕ) (e : Entry) → length e.key ≡ n → length (encode e) ≡ n + 2
unfolding encode
encode-length n e h = length-append e.key _ ∙ omega arith

-- records of n + 2 words, as those of a store are
abbrev pub WholeRecords : ℕ → List (List ℕ) → Type 0
WholeRecords n rs = All (λ (r : List ℕ). length r ≡ n + 2) rs

-- c records of a store that has room for e
counted-whole : (n : ℕ) (ws : List ℕ) (i e c : ℕ) → c ≤ e - i → e * (n + 2) ≤ length ws → WholeRecords n (counted n ws i c)
unfolding counted
counted-whole n ws i e zero h l = tt
counted-whole n ws i e (suc c) h l =
    (record-length n i ws (record-fits n i e ws (omega arith) l), counted-whole n ws (suc i) e c (omega arith) l)

-- the records of a store are whole
pub part-whole : (n : ℕ) (ws : List ℕ) (i e : ℕ) → e * (n + 2) ≤ length ws → WholeRecords n (part n ws i e)
unfolding part
part-whole n ws i e l = counted-whole n ws i e (e - i) (le_refl (e - i)) l

-- the words of whole records, and of two lists of them
pub flat-length : (n : ℕ) (rs : List (List ℕ)) → WholeRecords n rs → length (flat rs) ≡ length rs * (n + 2)
unfolding flat
flat-length n [] h = rw zero-mul
flat-length n (r ∷ rs) h =
    length-append r (flat rs) ∙ (let e = flat-length n rs h.1 in let f = suc-mul (length rs) (n + 2) in omega (arith, h.0))

pub flat_append : (xs ys : List (List ℕ)) → flat (xs ++ ys) ≡ flat xs ++ flat ys
unfolding flat
flat_append [] ys = refl
flat_append (x ∷ xs) ys = ap (λ (l : List ℕ). x ++ l) (flat_append xs ys) ∙ sym (append_assoc x (flat xs) (flat ys))

pub flat-one : (r : List ℕ) → flat (r ∷ []) ≡ r
unfolding flat
flat-one r = append-nil r

-- ---- records that were written are read back

-- records that stand after `pre`
counted-flat : (n : ℕ) (pre : List ℕ) (C : List (List ℕ)) (rest : List ℕ) (i : ℕ) → length pre ≡ i * (n + 2) → WholeRecords n C
    → counted n (pre ++ (flat C ++ rest)) i (length C) ≡ C
unfolding counted flat record_at
counted-flat n pre [] rest i e w = refl
counted-flat n pre (c ∷ C) rest i e w =
    let l : length (pre ++ c) ≡ suc i * (n + 2) = length-append pre c ∙ (let s = suc-mul i (n + 2) in omega (arith, w.0)) in
    let head : take (n + 2) (drop (i * (n + 2)) (pre ++ ((c ++ flat C) ++ rest))) ≡ c =
    ap (take (n + 2)) (drop_at pre ((c ++ flat C) ++ rest) (i * (n + 2)) e ∙ append_assoc c (flat C) rest) ∙ take_at c (flat C ++ rest) (n + 2) w.0 in
    let whole : pre ++ ((c ++ flat C) ++ rest) ≡ (pre ++ c) ++ (flat C ++ rest) = simp append_assoc in
    ap₂ (λ (r : List ℕ) (rs : List (List ℕ)). r ∷ rs) head
    (ap (λ (ws : List ℕ). counted n ws (suc i) (length C)) whole ∙ counted-flat n (pre ++ c) C rest (suc i) l w.1)

-- after C and S were laid over a store's start, its first records are C, part 0, and the next S,
-- part 1
pub read-part : (n : ℕ) (C S : List (List ℕ)) (ws : List ℕ) (b : Bool) → WholeRecords n C → WholeRecords n S → length (flat C ++ flat S) ≤ length ws
    → part n (sets ws 0 (flat C ++ flat S)) (cond b (length C) 0) (cond b (length C + length S) (length C)) ≡ cond b S C
unfolding part
read-part n C S ws false c s h =
    let d : length C - 0 ≡ length C = omega arith in
    rw (sets-start (flat C ++ flat S) ws h, append_assoc (flat C) (flat S) (drop (length (flat C ++ flat S)) ws), d)
    (counted-flat n [] C (flat S ++ drop (length (flat C ++ flat S)) ws) 0 (sym (zero-mul (n + 2))) c)
read-part n C S ws true c s h =
    let d : length C + length S - length C ≡ length S = omega arith in
    rw (sets-start (flat C ++ flat S) ws h, append_assoc (flat C) (flat S) (drop (length (flat C ++ flat S)) ws), d)
    (counted-flat n (flat C) S (drop (length (flat C ++ flat S)) ws) (length C) (flat-length n C c) s)

-- ---- a record read as an entry and written back is the same record, and an entry written and read back the same entry

-- the two words after a key
last-two : (n : ℕ) (r : List ℕ) → length r ≡ n + 2 → drop n r ≡ get_or r n 0 ∷ get_or r (n + 1) 0 ∷ []
last-two n r l =
    rw (drop-cons r n 0 (omega arith), drop-cons r (suc n) 0 (omega arith), add-one)
    (ap (λ (m : List ℕ). get_or r n 0 ∷ get_or r (suc n) 0 ∷ m) (drop_of_length-le r {i = suc (suc n)} (omega arith)))

-- there and back from a record
pub encode-decode : (n : ℕ) (r : List ℕ) → length r ≡ n + 2 → Words r → finite_record n r ≡ true → encode (decode n r) ≡ r
unfolding encode decode amplitude_of finite_record
encode-decode n r l w f =
    let re = get_or r n 0 in
    let im = get_or r (n + 1) 0 in
    let x = pattern-back re (all-at (λ v. v < 2 ^ 64) r n 0 (omega arith) w) (subst T (sym (and-true-l (finite (of_bits binary64 re)) (finite (of_bits binary64 im)) f)) tt) in
    let y = pattern-back im (all-at (λ v. v < 2 ^ 64) r (n + 1) 0 (omega arith) w) (subst T (sym (and_true_r (finite (of_bits binary64 re)) (finite (of_bits binary64 im)) f)) tt) in
    rw (x, y) (ap (λ (m : List ℕ). key_of n r ++ m) (sym (last-two n r l)) ∙ take-append-drop n r)

-- word m after a key
word_after : (k ws : List ℕ) (n m : ℕ) → length k ≡ n → get_or (k ++ ws) (n + m) 0 ≡ get_or ws m 0
word_after k ws n m l = rw (← l) (get_or-append-add k ws m 0)

-- there and back from an entry
pub decode-encode : (n : ℕ) (e : Entry) → length e.key ≡ n → FitsC e.amp → decode n (encode e) ≡ e
unfolding encode decode amplitude_of
decode-encode n e l f =
    let ws = to_bits binary64 e.amp.re ∷ to_bits binary64 e.amp.im ∷ [] in
    let re = ap (λ (i : ℕ). of_bits binary64 (get_or (e.key ++ ws) i 0)) (sym (add-zero n)) ∙ ap (of_bits binary64) (word_after e.key ws n 0 l) ∙ float_back e.amp.re f.0 in
    let im = ap (of_bits binary64) (word_after e.key ws n 1 l) ∙ float_back e.amp.im f.1 in
    ap₂ {C = Entry} (λ (k : List ℕ) (a : Complex). record { key = k; amp = a }) (take_at e.key ws n l) (ap₂ {C = Complex} (λ (x y : Float). record { re = x; im = y }) re im)

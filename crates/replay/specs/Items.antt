-- What is said of items that were read, and of their count. No contract can name the words, since
-- nothing is promised of what a read gives: there are some. What the clauses of src/ cite. Assumes
-- nothing.
use Rattle.std.specs.Prelude.{◌≡◌, refl, ℕ, ◌+◌, List, [], ◌∷◌, Bool, Option, None, Some, IfSome, length, get_or, take, drop, replicate}
use Rattle.std.proofs.Common.{ap, ◌∙◌, arith, length-take, length-drop}
use Rattle.std.proofs.lemmas.List.{length-replicate}
use Rattle.replay.specs.declared.Count.{Count}
use Rattle.replay.specs.declared.sizes.Sizes.{Sizes}
use Rattle.replay.specs.declared.Seen.{Seen}
use Rattle.replay.specs.declared.Seen.TheVariants as seen
use Rattle.replay.specs.Calls.{Lengths, item_holds}
use Rattle.replay.specs.Counting.{ItemVerdict, tally_one}

-- a header says these sizes
abbrev pub Says : List ℕ → Sizes → Type 0
Says h n = Lengths h n.state n.arg n.arg2 n.left n.right n.third n.out

-- how many words all parts have, and those that a call may change
abbrev pub words_before : Sizes → ℕ
words_before n = n.state + n.arg + n.arg2 + n.left + n.right + n.third + n.out

abbrev pub words_after : Sizes → ℕ
words_after n = n.state + n.left + n.right + n.third + n.out

-- whether the call on parts of these sizes, one after the other, leaves the words after it
abbrev pub item_of : List ℕ → Sizes → List ℕ → List ℕ → Bool
item_of h n before after =
    let from_arg = drop n.state before in
    let from_arg2 = drop n.arg from_arg in
    let from_left = drop n.arg2 from_arg2 in
    let from_right = drop n.left from_left in
    let from_third = drop n.right from_right in
    item_holds h (take n.state before) (take n.arg from_arg) (take n.arg2 from_arg2) (take n.left from_left) (take n.right from_right) (take n.third from_third) (drop n.third from_third) after

-- a verdict on an item with this header: on some words that have the lengths which it says, and as
-- many after the call as may change
pub record Judged (h : List ℕ) (r : Seen) : Type 0 where
  pub state : List ℕ
  pub arg : List ℕ
  pub arg2 : List ℕ
  pub left : List ℕ
  pub right : List ℕ
  pub third : List ℕ
  pub out : List ℕ
  pub after : List ℕ
  pub verdict : ItemVerdict r (item_holds h state arg arg2 left right third out after)
  pub lengths : Lengths h (length state) (length arg) (length arg2) (length left) (length right) (length third) (length out)
  pub after-length : length after ≡ length state + length left + length right + length third + length out

-- a verdict on some item
pub record Item (r : Seen) : Type 0 where
  pub header : List ℕ
  pub judged : Judged header r

-- no item, or a verdict on some
abbrev pub NextItem : Option Seen → Type 0
NextItem r = IfSome r Item

abbrev pub Items : List Seen → Type 0
Items [] = Unit
Items (r ∷ rs) = Item r × Items rs

-- the count of verdicts, the last one first
abbrev pub tally : List Seen → Count
tally [] = record { items = 0; differ = 0 }
tally (r ∷ rs) = tally_one (tally rs) r

-- a count of verdicts, each on some item
pub record Tallied (c : Count) : Type 0 where
  pub seen : List Seen
  pub items : Items seen
  pub count : c ≡ tally seen

-- ---- for the proofs

-- some words of the length that word i of a header says
zeros : List ℕ → ℕ → List ℕ
zeros h i = replicate (get_or h i 0) 0

zeros-length : (h : List ℕ) (i : ℕ) → length (zeros h i) ≡ get_or h i 0
unfolding zeros
zeros-length h i = length-replicate (get_or h i 0) 0

-- of an item that is not whole nothing is said
pub not-whole : (h : List ℕ) → Judged h seen.Broken
not-whole h =
    let w = zeros-length h in
    record {
      state = zeros h 4;
      arg = zeros h 5;
      arg2 = zeros h 6;
      left = zeros h 7;
      right = zeros h 8;
      third = zeros h 9;
      out = zeros h 10;
      after = replicate (length (zeros h 4) + length (zeros h 7) + length (zeros h 8) + length (zeros h 9) + length (zeros h 10)) 0;
      verdict = tt;
      lengths = (w 4, w 5, w 6, w 7, w 8, w 9, w 10);
      after-length = length-replicate (length (zeros h 4) + length (zeros h 7) + length (zeros h 8) + length (zeros h 9) + length (zeros h 10)) 0;
    }

-- parts that were cut off one after the other
pub parts-of : {from_arg from_arg2 from_left from_right from_third state arg arg2 left right third out : List ℕ} (h : List ℕ) (n : Sizes) (before after : List ℕ)
    → state ≡ take n.state before → from_arg ≡ drop n.state before
    → arg ≡ take n.arg from_arg → from_arg2 ≡ drop n.arg from_arg
    → arg2 ≡ take n.arg2 from_arg2 → from_left ≡ drop n.arg2 from_arg2
    → left ≡ take n.left from_left → from_right ≡ drop n.left from_left
    → right ≡ take n.right from_right → from_third ≡ drop n.right from_right
    → third ≡ take n.third from_third → out ≡ drop n.third from_third
    → item_holds h state arg arg2 left right third out after ≡ item_of h n before after
parts-of h n before after s e1 a e2 b e3 l e4 r e5 t o =
    let f2 = e2 ∙ ap (drop n.arg) e1 in
    let f3 = e3 ∙ ap (drop n.arg2) f2 in
    let f4 = e4 ∙ ap (drop n.left) f3 in
    let f5 = e5 ∙ ap (drop n.right) f4 in
    let arg = a ∙ ap (take n.arg) e1 in
    let arg2 = b ∙ ap (take n.arg2) f2 in
    let left = l ∙ ap (take n.left) f3 in
    let right = r ∙ ap (take n.right) f4 in
    let third = t ∙ ap (take n.third) f5 in
    let out = o ∙ ap (drop n.third) f5 in
    (λ i. item_holds h (s i) (arg i) (arg2 i) (left i) (right i) (third i) (out i) after)

-- a verdict on words that have the sizes
pub judged : {r : Seen} (h : List ℕ) (n : Sizes) (before after : List ℕ) → Says h n → length before ≡ words_before n → length after ≡ words_after n
    → ItemVerdict r (item_of h n before after) → Judged h r
judged h n before after says b a v =
    record {
      state = _;
      arg = _;
      arg2 = _;
      left = _;
      right = _;
      third = _;
      out = _;
      after = after;
      verdict = v;
      lengths = (
        simp length-take (omega (arith, says.0)),
        simp (length-take, length-drop) (omega (arith, says.1)),
        simp (length-take, length-drop) (omega (arith, says.2)),
        simp (length-take, length-drop) (omega (arith, says.3)),
        simp (length-take, length-drop) (omega (arith, says.4)),
        simp (length-take, length-drop) (omega (arith, says.5)),
        simp length-drop (omega (arith, says.6)),
      );
      after-length = simp (length-take, length-drop) (omega arith);
    }

pub some_item : {h : List ℕ} {r : Seen} → Judged h r → NextItem (Some r)
some_item {h} j = record { header = h; judged = j }

pub at-end : NextItem None
at-end = tt

pub tallied-none : Tallied (record { items = 0; differ = 0 })
tallied-none = record { seen = []; items = tt; count = refl }

pub tallied-more : {c d : Count} {r : Seen} → Tallied c → Item r → d ≡ tally_one c r → Tallied d
tallied-more {r = r} t i e = record { seen = r ∷ t.seen; items = (i, t.items); count = e ∙ ap (λ (c : Count). tally_one c r) t.count }

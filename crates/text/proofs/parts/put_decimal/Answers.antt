-- `text::parts::put_decimal` meets its contract. Assumes nothing.
use Rattle.std.proofs.Common.{◌≡◌, ◌+◌, ◌-◌, ◌≤◌, ℕ, length, take, drop, ap, sym, ◌∙◌, arith, length-take-le, length-drop}
use Rattle.std.proofs.lemmas.List.Edits.{sets}
use Rattle.keys.specs.Laws.{part-back}
use Rattle.text.specs.Text.{places, digits, decimal_of}
use Rattle.text.specs.Laws.{digits-length, places-range}
use Rattle.text.proofs.parts.put_decimal.Goals as goal

pub overflow_add-end : goal.overflow_add-end
overflow_add-end c =
    omega (arith, places-range)

pub slice_bounds-put_digits-end : goal.slice_bounds-put_digits-end
slice_bounds-put_digits-end c =
    omega (arith, places-range)

pub returns : goal.returns
unfolding decimal_of
returns c =
    let a = c.args in
    let k = c.count_digits.result in
    let part = take (a.at + k - a.at) (drop a.at a.buf.now) in
    let room : a.at + k - a.at ≤ length (drop a.at a.buf.now) = rw length-drop (omega (arith, places-range)) in
    let len : length part ≡ k = length-take-le (a.at + k - a.at) (drop a.at a.buf.now) room ∙ omega arith in
    let put : c.put_digits.new.bytes ≡ digits 10 k a.n = c.put_digits.ensures ∙ ap (λ (j : ℕ). digits 10 j a.n) len in
    let n : length c.put_digits.new.bytes ≡ k = ap length put ∙ digits-length 10 k a.n in
    record {
      bytes = part-back a.buf.now c.put_digits.new.bytes a.at k (omega (arith, places-range)) n ∙ ap (sets a.buf.now a.at) (put ∙ ap (λ (j : ℕ). digits 10 j a.n) c.count_digits.ensures);
      after = ap (λ (j : ℕ). a.at + j) (c.count_digits.ensures ∙ sym (digits-length 10 (places 19 a.n) a.n));
    }

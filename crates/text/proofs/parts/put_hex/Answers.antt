-- `text::parts::put_hex` meets its contract. Assumes nothing.
use Rattle.std.proofs.Common.{◌≡◌, ◌+◌, ◌-◌, ◌≤◌, ℕ, length, take, drop, ap, sym, ◌∙◌, arith, length-take-le, length-drop}
use Rattle.std.proofs.lemmas.List.Edits.{sets}
use Rattle.keys.specs.Laws.{part-back}
use Rattle.text.specs.Text.{digits, hex_of}
use Rattle.text.specs.Laws.{digits-length}
use Rattle.text.proofs.parts.put_hex.Goals as goal

pub returns : goal.returns
unfolding hex_of
returns c =
    let a = c.args in
    let part = take (a.at + 16 - a.at) (drop a.at a.buf.now) in
    let room : a.at + 16 - a.at ≤ length (drop a.at a.buf.now) = rw length-drop (omega arith) in
    let len : length part ≡ 16 = length-take-le (a.at + 16 - a.at) (drop a.at a.buf.now) room ∙ omega arith in
    let put : c.put_digits.new.bytes ≡ digits 16 16 a.w = c.put_digits.ensures ∙ ap (λ (j : ℕ). digits 16 j a.w) len in
    let n : length c.put_digits.new.bytes ≡ 16 = ap length put ∙ digits-length 16 16 a.w in
    record {
      bytes = part-back a.buf.now c.put_digits.new.bytes a.at 16 c.requires n ∙ ap (sets a.buf.now a.at) put;
      after = ap (λ (j : ℕ). a.at + j) (sym (digits-length 16 16 a.w));
    }

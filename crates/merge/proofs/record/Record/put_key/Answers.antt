-- `merge::record::Record::put_key` meets its contract. Assumes nothing.
use Rattle.std.proofs.Common.{Bool, sym, ap, ◌∙◌, arith, length-take, length-drop}
use Rattle.std.proofs.lemmas.List.Edits.{sets}
use Rattle.keys.specs.Keys.{toggle}
use Rattle.keys.specs.Laws.{part-back}
use Rattle.merge.specs.Records.{new_key}
use Rattle.merge.proofs.record.Record.put_key.Goals as goal

pub returns-then-toggled : goal.returns-then-toggled
returns-then-toggled c =
    let a = c.args in
    part-back a.dst.now _ a.to a.self.n c.requires.n_in_bounds (c.copy_key_toggled.auto.dst ∙ simp (length-take, length-drop) (omega (arith, c.requires.n_in_bounds)))
    ∙ ap (sets a.dst.now a.to) (c.copy_key_toggled.ensures ∙ ap (toggle a.q) c.key.ensures)
    ∙ ap (λ (t : Bool). sets a.dst.now a.to (new_key a.self.n a.q t a.self.words.now)) (sym c.if-toggled.true)

pub returns-else-toggled : goal.returns-else-toggled
returns-else-toggled c =
    let a = c.args in
    part-back a.dst.now _ a.to a.self.n c.requires.n_in_bounds (c.copy_key.auto.dst ∙ simp (length-take, length-drop) (omega (arith, c.requires.n_in_bounds)))
    ∙ ap (sets a.dst.now a.to) (c.copy_key.ensures ∙ c.key-else-toggled.ensures)
    ∙ ap (λ (t : Bool). sets a.dst.now a.to (new_key a.self.n a.q t a.self.words.now)) (sym c.if-toggled.false)

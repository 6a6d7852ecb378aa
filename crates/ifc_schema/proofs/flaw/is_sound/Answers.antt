use Rattle.std.proofs.Common.{◌≡◌, rules}
use Rattle.ifc_schema.specs.declared.form.Count.TheVariants.{Exactly}
use Rattle.ifc_schema.proofs.SoundRows.{numbers_sound, wholes_sound, on_true}
use Rattle.ifc_schema.proofs.flaw.is_sound.Goals as goal

pub returns-in-Number : goal.returns-in-Number
returns-in-Number c =
    let three : c.args.inner ≡ Exactly 3 = search rules in
    numbers_sound c.args.inner c.args.leaf c.args.row three c.in-Number.is

pub returns-in-Whole : goal.returns-in-Whole
returns-in-Whole c =
    let three : c.args.inner ≡ Exactly 3 = search rules in
    on_true c.are_bare.result c.are_bare.ensures (λ bare. wholes_sound c.args.inner c.args.leaf c.args.row three c.in-Whole.is bare)

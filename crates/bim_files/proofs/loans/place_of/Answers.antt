use Rattle.std.proofs.Common.{◌≡◌, All, List, false, subst, arith}
use Rattle.std.proofs.lemmas.List.{take_all}
use Rattle.bim_files.specs.declared.loans.MemFile.{MemFile}
use Rattle.bim_files.specs.MemoryFiles.{has_name}
use Rattle.bim_files.proofs.Lending.{none_more}
use Rattle.bim_files.proofs.loans.place_of.Goals as goal

pub places-preserved : goal.places-preserved
places-preserved c =
    let differs : has_name c.args.name.now c.index-files-place.result ≡ false =
    grind (arith, c.eq.ensures, c.if-eq.false, c.as_str.ensures, c.as_str-in-places.ensures) in
    none_more c.args.files.now c.args.name.now c.places.place c.index-files-place.result (omega (arith, c.places-test.true)) c.index-files-place.is differs
    c.places.invariant

pub returns-clause-none : goal.returns-clause-none
returns-clause-none c =
    subst (λ (fs : List MemFile). All (λ (f : MemFile). has_name c.args.name.now f ≡ false) fs)
    (take_all c.places.place c.args.files.now (omega (arith, c.places-test.false))) c.places.invariant

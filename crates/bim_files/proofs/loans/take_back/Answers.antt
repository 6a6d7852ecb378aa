use Rattle.bim_files.proofs.Lending.{lent_less}
use Rattle.bim_files.proofs.loans.take_back.Goals as goal

pub returns : goal.returns
returns c =
    let stands = rw c.as_slice.ensures.value at c.in-Some.ensures.found in
    λ some n. rw c.swap_remove.ensures.items (lent_less c.args.lent.now.items c.in-Some.place c.args.name.now c.swap_remove.result n stands)

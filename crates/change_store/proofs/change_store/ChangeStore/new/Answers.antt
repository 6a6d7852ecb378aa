use Rattle.std.proofs.Common.{sym, subst}
use Rattle.change_store.specs.ChangeRows.{IsOfChanges}
use Rattle.change_store.proofs.CommitLemmas.{ready_changes}
use Rattle.change_store.proofs.change_store.ChangeStore.new.Goals as goal

pub invariant_of-result : goal.invariant_of-result
invariant_of-result g c = record {
  ready = λ clean unsealed. c.requires clean;
  found = λ clean db left.
      let ready = c.requires clean in
      subst IsOfChanges (sym (g.met.S.Store.settled c.args.store db ready.settled.is_open left)) (ready_changes _ _ ready);
}

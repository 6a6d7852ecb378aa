use Rattle.std.proofs.Common.{◌≡◌, ℕ, List, length, refl, sym, ap₂, subst, arith}
use Rattle.std.proofs.lemmas.Grind.{common_steps}
use Rattle.book_history.specs.declared.changes.Entry.{Entry}
use Rattle.book_history.specs.declared.limits.Settings.{Settings}
use Rattle.book_history.specs.Requests.{BookState}
use Rattle.book_history.specs.MadeEntries.{AreMade}
use Rattle.federation_book.specs.declared.state.State.{State}
use Rattle.federation_book.specs.KeptProjects.{settings_of}
use Rattle.federation_book.proofs.Keeping.{kept_more}
use Rattle.federation_book.proofs.Starting.{new_kept}
use Rattle.federation_book.proofs.book.Book.new.Goals as goal

pub loop-number-preserved : goal.loop-number-preserved
loop-number-preserved c = record {
  kept = kept_more c.loop-number.kept.items c.push.new.self.items _ c.loop-number.invariant.kept c.in_ok-project.ensures c.in_ok-push.ensures.items;
  count = grind (arith, common_steps, c.in_ok-push.ensures.items);
}

pub invariant_of-result : goal.invariant_of-result
invariant_of-result c =
    let state : State = record { limits = c.args.limits; projects = c.loop-number.kept; entries = c.new-2.result; triangles = 0; text = 0 } in
    let count = c.loop-number.invariant.count in
    let end = c.loop-number.auto._number-end in
    let most = c.requires.high in
    record {
      kept = new_kept state c.loop-number.invariant.kept (omega (arith, count, end, most)) c.new-2.ensures.items refl refl c.requires.limits;
      made = subst (AreMade (settings_of state)) (sym c.new-2.ensures.items) tt;
    }

pub returns : goal.returns
returns c =
    let count = c.loop-number.invariant.count in
    let end = c.loop-number.auto._number-end in
    let test = c.loop-number-test.false in
    let all : length c.loop-number.kept.items ≡ c.args.projects = omega (arith, count, end, test) in
    ap₂ (λ (n : ℕ) (j : List Entry). (let s : Settings = record { projects = n; limits = c.args.limits } in let r : BookState = record { settings = s; journal = j } in r)) all c.new-2.ensures.items

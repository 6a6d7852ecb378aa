use Rattle.std.proofs.Common.{Some, refl, sym, ap, ◌∙◌}
use Rattle.book_history.specs.declared.requests.BookRequest.TheVariants.{ReadClashes}
use Rattle.book_history.specs.declared.requests.Wanted.{Wanted}
use Rattle.bim_session.specs.ShelfNotes.{AsksShelf}
use Rattle.bim_session.proofs.notes.Notes.on_shelf.Goals as goal

pub returns-in_ok-share-in-ReadClashes-clause-kept : goal.returns-in_ok-share-in-ReadClashes-clause-kept
returns-in_ok-share-in-ReadClashes-clause-kept c =
    let asks : AsksShelf c.args.self.now c.args.request.now = record {
      id = c.in-ReadClashes.project;
      project = c.in-Some.number;
      version = c.in-Number.version;
      first = c.in-ReadClashes.first;
      count = c.in-ReadClashes.count;
      content = c.in_ok-share-in-ReadClashes.field-0;
      request_is = c.in-ReadClashes.is
          ∙ ap (λ (w : Wanted). ReadClashes c.in-ReadClashes.project w c.in-ReadClashes.first c.in-ReadClashes.count) c.in-Number.is;
      named = sym c.in-Some.ensures;
      kept = sym c.in-Some-get.ensures ∙ ap Some (sym c.in_ok-share-in-ReadClashes.ensures);
    } in
    (asks, refl)

-- A history whose entries were made by requests goes on so.
use Rattle.std.proofs.Common.{◌≡◌, List, [], ◌∷◌, ◌++◌, Option, Some, None, refl, sym, ◌∙◌, ap, subst, append_assoc, append-nil}
use Rattle.std.proofs.lemmas.Option.{same_Some}
use Rattle.book_turn.specs.declared.object.Stamp.{Stamp}
use Rattle.book_turn.specs.Entries.{listed}
use Rattle.book_history.specs.declared.limits.Settings.{Settings}
use Rattle.book_history.specs.declared.requests.BookRequest.{BookRequest}
use Rattle.book_history.specs.declared.changes.Entry.{Entry}
use Rattle.book_history.specs.Requests.{Outcome, Refusal, Answer, Accepted, entry_of, entry_by, without_turn, added_by, entry_added, outcome_of}
use Rattle.book_history.specs.Legal.{IsLegal}
use Rattle.book_history.specs.MadeEntries.{IsBuilt, IsMadeAt, AreMadeAfter, AreMade}

-- one more entry
pub made_more : (s : Settings) (h es : List Entry) (e : Entry) → AreMadeAfter s h es → IsMadeAt s (h ++ es) e → AreMadeAfter s h (es ++ e ∷ [])
made_more s h [] e before made = (subst (λ (j : List Entry). IsMadeAt s j e) (append-nil h) made, tt)
made_more s h (d ∷ es) e before made =
    (before.0, made_more s (h ++ d ∷ []) es e before.1 (subst (λ (j : List Entry). IsMadeAt s j e) (sym (append_assoc h (d ∷ []) es)) made))

-- what an outcome adds
outcome_is : (stamp : Stamp) (o : Outcome) (e : Entry) → entry_by stamp o ≡ Some e → o ≡ Accepted e.project e.change
outcome_is stamp (Refusal f) e is = absurd cc
outcome_is stamp (Answer body) e is = absurd cc
outcome_is stamp (Accepted number change) e is =
    ap (λ (x : Entry). Accepted x.project x.change) (same_Some (entry_of stamp number change) e is)

made_by : (s : Settings) (h : List Entry) (stamp : Stamp) (r : BookRequest) (o : Option Entry) → AreMade s h → IsBuilt r → IsLegal s h r → entry_added s h stamp (without_turn r) ≡ o → AreMade s (h ++ listed o)
made_by s h stamp r None before built legal is = subst (AreMade s) (sym (append-nil h)) before
made_by s h stamp r (Some e) before built legal is =
    made_more s [] h e before (record {
      request = r;
      built = built;
      legal = legal;
      becomes = outcome_is stamp (outcome_of s h r) e is;
    })

-- what a request adds that may be made
pub made_after : (s : Settings) (h : List Entry) (stamp : Stamp) (r : BookRequest) → AreMade s h → IsBuilt r → IsLegal s h r → AreMade s (h ++ added_by s h stamp (without_turn r))
made_after s h stamp r before built legal = made_by s h stamp r (entry_added s h stamp (without_turn r)) before built legal refl

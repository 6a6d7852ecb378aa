-- One more tree of an element, a model, a rule or a clash.
use Rattle.std.proofs.Common.{◌≡◌, ◌+◌, ◌<◌, ℕ, List, [], ◌∷◌, ◌++◌, length, take, get_or, sym, ◌∙◌, ap}
use Rattle.std.proofs.lemmas.List.{take_more}
use Rattle.serde_json.specs.Data.{item, no_items}
use Rattle.serde_json.specs.View.{view, items_view}
use Rattle.serde_json.specs.declared.value.Value.{Value}
use Rattle.bim_model.specs.declared.element.Element.{Element}
use Rattle.bim_model.specs.declared.named_model.NamedModel.{NamedModel}
use Rattle.bim_model.specs.declared.rules.Rule.{Rule}
use Rattle.bim_model.specs.Snapshots.{Version}
use Rattle.bucket_check.specs.declared.pair.SetPair.{SetPair}
use Rattle.coord_json.specs.RuleTrees.{rule_tree, rule_items}
use Rattle.coord_json.specs.ClashTrees.{clash_data, pair_items}
use Rattle.coord_json.specs.VersionTrees.{IsElementTree, AreElementTrees, IsModelTree, AreModelTrees}

elements_push : (es : List Element) (vs : List Value) (e : Element) (v : Value)
    → AreElementTrees es (items_view vs) → IsElementTree e (view v) → AreElementTrees (es ++ e ∷ []) (items_view (vs ++ v ∷ []))
elements_push [] [] e v are is = (is, tt)
elements_push [] (w ∷ vs) e v are is = absurd are
elements_push (u ∷ es) [] e v are is = absurd are
elements_push (u ∷ es) (w ∷ vs) e v are is = (are.0, elements_push es vs e v are.1 is)

pub elements_more : (es : List Element) (i : ℕ) (old new : List Value) → i < length es → (e : Element) → e ≡ get_or es i e
    → (v : Value) → IsElementTree e (view v) → new ≡ old ++ v ∷ []
    → AreElementTrees (take i es) (items_view old) → AreElementTrees (take (i + 1) es) (items_view new)
elements_more es i old new lt e at v is grown are =
    let more : take (i + 1) es ≡ take i es ++ e ∷ [] = take_more es i e lt ∙ ap (λ x. take i es ++ x ∷ []) (sym at) in
    rw (more, grown) (elements_push (take i es) old e v are is)

models_push : (ms : List NamedModel) (vs : List Value) (m : NamedModel) (v : Value)
    → AreModelTrees ms (items_view vs) → IsModelTree m (view v) → AreModelTrees (ms ++ m ∷ []) (items_view (vs ++ v ∷ []))
models_push [] [] m v are is = (is, tt)
models_push [] (w ∷ vs) m v are is = absurd are
models_push (u ∷ ms) [] m v are is = absurd are
models_push (u ∷ ms) (w ∷ vs) m v are is = (are.0, models_push ms vs m v are.1 is)

pub models_more : (ms : List NamedModel) (i : ℕ) (old new : List Value) → i < length ms → (m : NamedModel) → m ≡ get_or ms i m
    → (v : Value) → IsModelTree m (view v) → new ≡ old ++ v ∷ []
    → AreModelTrees (take i ms) (items_view old) → AreModelTrees (take (i + 1) ms) (items_view new)
models_more ms i old new lt m at v is grown are =
    let more : take (i + 1) ms ≡ take i ms ++ m ∷ [] = take_more ms i m lt ∙ ap (λ x. take i ms ++ x ∷ []) (sym at) in
    rw (more, grown) (models_push (take i ms) old m v are is)

rules_push : (rs : List Rule) (vs : List Value) (r : Rule) (v : Value)
    → items_view vs ≡ rule_items rs → view v ≡ rule_tree r → items_view (vs ++ v ∷ []) ≡ rule_items (rs ++ r ∷ [])
rules_push [] [] r v are is = ap (λ d. item d no_items) is
rules_push [] (w ∷ vs) r v are is = cc
rules_push (q ∷ rs) [] r v are is = cc
rules_push (q ∷ rs) (w ∷ vs) r v are is =
    let first : view w ≡ rule_tree q = cc in
    let rest : items_view vs ≡ rule_items rs = cc in
    ap (λ d. item d (items_view (vs ++ v ∷ []))) first ∙ ap (λ ds. item (rule_tree q) ds) (rules_push rs vs r v rest is)

pub rules_more : (rs : List Rule) (i : ℕ) (old new : List Value) → i < length rs → (r : Rule) → r ≡ get_or rs i r
    → (v : Value) → view v ≡ rule_tree r → new ≡ old ++ v ∷ []
    → items_view old ≡ rule_items (take i rs) → items_view new ≡ rule_items (take (i + 1) rs)
rules_more rs i old new lt r at v is grown are =
    let more : take (i + 1) rs ≡ take i rs ++ r ∷ [] = take_more rs i r lt ∙ ap (λ x. take i rs ++ x ∷ []) (sym at) in
    rw (more, grown) (rules_push (take i rs) old r v are is)

pairs_push : (version : Version) (ps : List SetPair) (vs : List Value) (p : SetPair) (v : Value)
    → items_view vs ≡ pair_items version ps → view v ≡ clash_data version p → items_view (vs ++ v ∷ []) ≡ pair_items version (ps ++ p ∷ [])
pairs_push version [] [] p v are is = ap (λ d. item d no_items) is
pairs_push version [] (w ∷ vs) p v are is = cc
pairs_push version (q ∷ ps) [] p v are is = cc
pairs_push version (q ∷ ps) (w ∷ vs) p v are is =
    let first : view w ≡ clash_data version q = cc in
    let rest : items_view vs ≡ pair_items version ps = cc in
    ap (λ d. item d (items_view (vs ++ v ∷ []))) first ∙ ap (λ ds. item (clash_data version q) ds) (pairs_push version ps vs p v rest is)

pub pairs_more : (version : Version) (ps : List SetPair) (i : ℕ) (old new : List Value) (d : SetPair) (v : Value) → i < length ps
    → view v ≡ clash_data version (get_or ps i d) → new ≡ old ++ v ∷ []
    → items_view old ≡ pair_items version (take i ps) → items_view new ≡ pair_items version (take (i + 1) ps)
pairs_more version ps i old new d v lt is grown are =
    rw (take_more ps i d lt, grown) (pairs_push version (take i ps) old (get_or ps i d) v are is)

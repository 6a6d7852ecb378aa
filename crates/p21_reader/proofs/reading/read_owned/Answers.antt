use Rattle.std.proofs.Common.{List, map, sym, ap, subst, ◌∙◌}
use Rattle.bim_model.specs.declared.upload.BuildError.TheVariants.{Fault}
use Rattle.bim_model.specs.declared.upload.UploadFault.TheVariants.{DoubleId}
use Rattle.p21_values.specs.declared.instance_head.Head.{Head}
use Rattle.p21_values.specs.declared.value.Instance.{Instance}
use Rattle.p21_values.proofs.Told.{same_count}
use Rattle.p21_reader.specs.Uploads.{IsCause, SpellsExchange, TablesUpload}
use Rattle.p21_reader.proofs.Causes.{cause_refused, many_cause, double_cause, spelled_exchange, few_sorted, small_sorted, if_err}
use Rattle.p21_reader.proofs.Ordered.{ordered}
use Rattle.p21_reader.proofs.reading.read_owned.Goals as goal

pub returns-in_err-table-clause-refused : goal.returns-in_err-table-clause-refused
returns-in_err-table-clause-refused c =
    let e = c.in_err-table.field-0.0 in
    if_err c.from_residual.result _ e c.from_residual.ensures.1 (cause_refused c.args.bytes e (subst (λ b. IsCause b e) c.as_slice-2.ensures c.in_err-table.ensures.fault))

pub returns-in-Some-clause-fault : goal.returns-in-Some-clause-fault
returns-in-Some-clause-fault c =
    let t = subst (λ b. TablesUpload b c.in_ok-table.table) c.as_slice-2.ensures c.in_ok-table.ensures.table in
    let n = same_count c.args.bytes c.in_ok-table.table.starts.items c.in_ok-table.table.heads.items t.0 t.2 in
    many_cause c.args.bytes t.0 c.in-Some.fault t.1 (c.in-Some.ensures t.0 (sym n) t.3)

pub returns-in-Some-clause-refused : goal.returns-in-Some-clause-refused
returns-in-Some-clause-refused c =
    let t = subst (λ b. TablesUpload b c.in_ok-table.table) c.as_slice-2.ensures c.in_ok-table.ensures.table in
    let n = same_count c.args.bytes c.in_ok-table.table.starts.items c.in_ok-table.table.heads.items t.0 t.2 in
    cause_refused c.args.bytes (Fault c.in-Some.fault) (many_cause c.args.bytes t.0 c.in-Some.fault t.1 (c.in-Some.ensures t.0 (sym n) t.3))

pub of-requires : goal.of-requires
of-requires c =
    let t = subst (λ b. TablesUpload b c.in_ok-table.table) c.as_slice-2.ensures c.in_ok-table.ensures.table in
    let n = same_count c.args.bytes c.in_ok-table.table.starts.items c.in_ok-table.table.heads.items t.0 t.2 in
    let few = c.in-None.ensures t.0 (sym n) t.3 in
    let w = ordered c.args.bytes c.in_ok-table.table c.in_ok-heads.heads.items t c.in_ok-heads.ensures.moved in
    let same = w.3 ∙ ap (λ hs. map (λ (h : Head). h.id) hs) (sym c.as_slice-3.ensures.value) in
    (w.0, w.1, c.in-None-least_double.ensures.none w.0 same, few_sorted t.0 w.0 w.2 few.0, small_sorted t.0 w.0 w.2 few.1)

pub returns-in-None-least_double-clause-exchange : goal.returns-in-None-least_double-clause-exchange
returns-in-None-least_double-clause-exchange c =
    let t = subst (λ b. TablesUpload b c.in_ok-table.table) c.as_slice-2.ensures c.in_ok-table.ensures.table in
    let n = same_count c.args.bytes c.in_ok-table.table.starts.items c.in_ok-table.table.heads.items t.0 t.2 in
    let few = c.in-None.ensures t.0 (sym n) t.3 in
    let w = ordered c.args.bytes c.in_ok-table.table c.in_ok-heads.heads.items t c.in_ok-heads.ensures.moved in
    let same = w.3 ∙ ap (λ hs. map (λ (h : Head). h.id) hs) (sym c.as_slice-3.ensures.value) in
    let s = spelled_exchange c.args.bytes t.0 w.0 t.1 few.0 few.1 w.2 (c.in-None-least_double.ensures.none w.0 same) in
    subst (λ (x : List Instance). SpellsExchange c.args.bytes x) (sym (c.of.ensures w.0 w.1)) s

pub returns-in-Some-least_double-clause-fault : goal.returns-in-Some-least_double-clause-fault
returns-in-Some-least_double-clause-fault c =
    let t = subst (λ b. TablesUpload b c.in_ok-table.table) c.as_slice-2.ensures c.in_ok-table.ensures.table in
    let n = same_count c.args.bytes c.in_ok-table.table.starts.items c.in_ok-table.table.heads.items t.0 t.2 in
    let few = c.in-None.ensures t.0 (sym n) t.3 in
    let w = ordered c.args.bytes c.in_ok-table.table c.in_ok-heads.heads.items t c.in_ok-heads.ensures.moved in
    let same = w.3 ∙ ap (λ hs. map (λ (h : Head). h.id) hs) (sym c.as_slice-3.ensures.value) in
    double_cause c.args.bytes t.0 w.0 c.in-Some-least_double.id t.1 few.0 few.1 w.2 (c.in-Some-least_double.ensures.double w.0 same)

pub returns-in-Some-least_double-clause-refused : goal.returns-in-Some-least_double-clause-refused
returns-in-Some-least_double-clause-refused c =
    let t = subst (λ b. TablesUpload b c.in_ok-table.table) c.as_slice-2.ensures c.in_ok-table.ensures.table in
    let n = same_count c.args.bytes c.in_ok-table.table.starts.items c.in_ok-table.table.heads.items t.0 t.2 in
    let few = c.in-None.ensures t.0 (sym n) t.3 in
    let w = ordered c.args.bytes c.in_ok-table.table c.in_ok-heads.heads.items t c.in_ok-heads.ensures.moved in
    let same = w.3 ∙ ap (λ hs. map (λ (h : Head). h.id) hs) (sym c.as_slice-3.ensures.value) in
    cause_refused c.args.bytes (Fault (DoubleId c.in-Some-least_double.id))
    (double_cause c.args.bytes t.0 w.0 c.in-Some-least_double.id t.1 few.0 few.1 w.2 (c.in-Some-least_double.ensures.double w.0 same))

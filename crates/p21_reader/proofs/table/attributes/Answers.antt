use Rattle.std.proofs.Common.{◌≡◌, ◌+◌, ◌<◌, ◌≤◌, arith, sym, ◌∙◌, [], Some, Ok, refl, length}
use Rattle.p21_values.specs.declared.fault.ReadFault.TheVariants as faults
use Rattle.p21_values.specs.declared.piece.Kind.TheVariants as kinds
use Rattle.p21_values.specs.Grammar.{Inside, After, Value}
use Rattle.p21_values.specs.Lexemes.{lexeme_of}
use Rattle.p21_reader.specs.inner.Tabling.{PutsStart, PutsFirst, PutsBehind, PutsStarts}
use Rattle.p21_reader.proofs.Steps.{residual, fails_none, fails_refused, after_fails}
use Rattle.p21_reader.proofs.Lists.{said, comma_fails, inside_fails}
use Rattle.p21_reader.proofs.Inwards.{after_none}
use Rattle.p21_reader.proofs.Tabled.{Putting, puts_none, putting_first, putting_plain, putting_more, putting_on, putting_close, putting_fails, more_past}
use Rattle.p21_reader.proofs.table.attributes.Goals.{in-Some, in-None+in_ok-first-in-None+in_default+in_ok-end-in-None}
use Rattle.p21_reader.proofs.table.attributes.Goals as goal

pub returns-in_err-first-in-None-clause-starts : goal.returns-in_err-first-in-None-clause-starts
returns-in_err-first-in-None-clause-starts c =
    rw (residual _ _ c.from_residual-in_err-first-in-None.ensures.1)
    (fails_none (Inside (Some c.args.depth)) [] c.args.bytes.now c.args.at c.in_err-first-in-None.field-0.0 c.in_err-first-in-None.ensures.fault)

pub returns-in-Close : goal.returns-in-Close
returns-in-Close c =
    let same = rw c.in-None.is at c.in_ok-end.ensures.none in
    let t = c.in_ok-first-in-None.ensures in
    let close = c.in_ok-first-in-None.first.token in
    let l = said (lexeme_of c.args.bytes.now close) kinds.Close tt (sym c.in-Close.is ∙ t.piece.seen) in
    let starts : PutsStarts c.args.depth c.args.bytes.now c.args.at c.args.table.now c.plain_first.new.table (Ok close.end) =
    rw same (puts_none c.args.depth c.args.bytes.now c.args.at close c.args.table.now c.requires.counted t.cuts l) in
    let few : length c.plain_first.new.table.starts.items + c.args.at ≤ length c.args.table.now.starts.items + close.end = rw same (omega (arith, t.on, t.piece.some)) in
    let heads : c.plain_first.new.table.heads.items ≡ c.args.table.now.heads.items = rw same refl in
    record {
      starts = starts;
      few = few;
      heads = heads;
      on = omega (arith, t.on, t.piece.some);
      within = t.piece.within;
    }

pub returns-in_err-end-in-None : goal.returns-in_err-end-in-None
returns-in_err-end-in-None c =
    let f = c.in_err-end-in-None.field-0.0 in
    let t = c.in_ok-first-in-None.ensures in
    rw (residual _ _ c.from_residual-in_err-end-in-None.ensures.1) (record {
      starts = inside_fails c.args.depth c.args.bytes.now c.args.at c.in_ok-first-in-None.first.token c.in_ok-first-in-None.first.kind f t.cuts t.piece.seen c.in_default.not-Close c.in_err-end-in-None.ensures.start;
      few = tt;
      heads = tt;
      on = tt;
      within = tt;
    })

pub items-init : goal.items-init
items-init c =
    let bytes = c.args.bytes.now in
    let at = c.args.at in
    let old = c.args.table.now in
    let r = c.in_ok-end.ensures in
    elim c.match-branch-2.branch [
      | in-Some w ↦ (
          let new = c.plain_first.new.table in
          let end = w.in-Some.end in
          let p : PutsFirst c.args.depth bytes at old new end = rw w.in-Some.is at (r.start c.args.depth) in
          let on : at < end = rw w.in-Some.is at r.on in
          let within : end ≤ length bytes = rw w.in-Some.is at r.within in
          let puts = p.2 in
          rw (w.table-is, w.end-is) (record {
            within = within;
            on = omega (arith, on);
            few = more_past old.starts.items old.starts.items new.starts.items p.0.start at at end (omega arith) puts.2 on;
            heads = r.heads;
            read = putting_plain c.args.depth bytes at end old new p;
          }))
      | in-None+in_ok-first-in-None+in_default+in_ok-end-in-None w ↦ (
          let same : c.plain_first.new.table ≡ old = rw w.in-None.is at r.none in
          let new = w.attribute.new.table in
          let first = w.in_ok-first-in-None.first in
          let t = w.in_ok-first-in-None.ensures in
          let u = w.in_ok-end-in-None.ensures in
          let end = w.in_ok-end-in-None.end in
          let p : PutsStart c.args.depth bytes first.token old new (Ok end) = rw same at u.start in
          let heads : new.heads.items ≡ old.heads.items = rw same at u.heads in
          rw (w.table-is, w.end-is) (record {
            within = u.within;
            on = omega (arith, t.on, t.piece.some, u.on);
            few = more_past old.starts.items old.starts.items new.starts.items first.token.start at at end (omega arith) p.2 (omega (arith, t.on, t.piece.some, u.on));
            heads = heads;
            read = putting_first c.args.depth bytes at end first.token first.kind old new t.cuts t.piece.seen w.in_default.not-Close p;
          }))
    ]

pub items-preserved-in-Some-2 : goal.items-preserved-in-Some-2
items-preserved-in-Some-2 c =
    let d = c.args.depth in
    let bytes = c.args.bytes.now in
    let at = c.args.at in
    let old = c.args.table.now in
    let now = c.pass_absent.new.table in
    let new = c.plain_attribute.new.table in
    let end = c.in_ok-end-2.end in
    let behind = c.in-Some-2.behind in
    let i = c.items.invariant in
    let a = c.in_ok-end-2.ensures in
    let r = c.in_ok-behind.ensures in
    let p : PutsBehind d bytes end now new behind = rw c.in-Some-2.is at (r.start d) in
    let on : end < behind = rw c.in-Some-2.is at r.on in
    let read = putting_on d bytes at c.items.end end old c.items.table now i.read (a.starts d) in
    let puts = p.5 in
    record {
      within = rw c.in-Some-2.is at r.within;
      on = omega (arith, i.on, a.on, on);
      few = more_past old.starts.items now.starts.items new.starts.items p.1.start at end behind (omega (arith, i.few, a.few)) puts.2 on;
      heads = r.heads ∙ a.heads ∙ i.heads;
      read = putting_more d bytes at end behind p.0 p.1 old now new read p.2 p.3 p.4 puts;
    }

pub returns-in_err-next : goal.returns-in_err-next
returns-in_err-next c =
    let same = rw c.in-None-2.is at c.in_ok-behind.ensures.none in
    let read : Putting c.args.depth c.args.bytes.now c.args.at c.in_ok-end-2.end c.args.table.now c.plain_attribute.new.table =
    rw same
    (putting_on c.args.depth c.args.bytes.now c.args.at c.items.end c.in_ok-end-2.end c.args.table.now c.items.table c.pass_absent.new.table c.items.invariant.read (c.in_ok-end-2.ensures.starts c.args.depth)) in
    let f = c.in_err-next.field-0.0 in
    rw (residual _ _ c.from_residual-in_err-next.ensures.1) (record {
      starts =
          putting_fails c.args.depth c.args.bytes.now c.args.at c.in_ok-end-2.end c.args.table.now c.plain_attribute.new.table f read
          (fails_none (After (Some c.args.depth)) [] c.args.bytes.now c.in_ok-end-2.end f c.in_err-next.ensures.fault);
      few = tt;
      heads = tt;
      on = tt;
      within = tt;
    })

pub returns-in-Close-kind : goal.returns-in-Close-kind
returns-in-Close-kind c =
    let i = c.items.invariant in
    let p = c.in_ok-end-2.ensures in
    let same = rw c.in-None-2.is at c.in_ok-behind.ensures.none in
    let read : Putting c.args.depth c.args.bytes.now c.args.at c.in_ok-end-2.end c.args.table.now c.plain_attribute.new.table =
    rw same
    (putting_on c.args.depth c.args.bytes.now c.args.at c.items.end c.in_ok-end-2.end c.args.table.now c.items.table c.pass_absent.new.table c.items.invariant.read (c.in_ok-end-2.ensures.starts c.args.depth)) in
    let few : length c.plain_attribute.new.table.starts.items + c.args.at ≤ length c.args.table.now.starts.items + c.in_ok-end-2.end = rw same (omega (arith, i.few, p.few)) in
    let heads : c.plain_attribute.new.table.heads.items ≡ c.args.table.now.heads.items = rw same (p.heads ∙ i.heads) in
    let t = c.in_ok-next.ensures in
    let l = said (lexeme_of c.args.bytes.now c.in_ok-next.next.token) kinds.Close tt (sym c.in-Close-kind.is ∙ t.piece.seen) in
    record {
      starts = putting_close c.args.depth c.args.bytes.now c.args.at c.in_ok-end-2.end c.in_ok-next.next.token c.args.table.now c.plain_attribute.new.table read t.cuts l;
      few = omega (arith, few, t.on, t.piece.some);
      heads = heads;
      on = omega (arith, i.on, p.on, t.on, t.piece.some);
      within = t.piece.within;
    }

pub returns-in_err-item-in-Comma : goal.returns-in_err-item-in-Comma
returns-in_err-item-in-Comma c =
    let same = rw c.in-None-2.is at c.in_ok-behind.ensures.none in
    let read : Putting c.args.depth c.args.bytes.now c.args.at c.in_ok-end-2.end c.args.table.now c.plain_attribute.new.table =
    rw same
    (putting_on c.args.depth c.args.bytes.now c.args.at c.items.end c.in_ok-end-2.end c.args.table.now c.items.table c.pass_absent.new.table c.items.invariant.read (c.in_ok-end-2.ensures.starts c.args.depth)) in
    let f = c.in_err-item-in-Comma.field-0.0 in
    let l = said (lexeme_of c.args.bytes.now c.in_ok-next.next.token) kinds.Comma tt (sym c.in-Comma.is ∙ c.in_ok-next.ensures.piece.seen) in
    rw (residual _ _ c.from_residual-in_err-item-in-Comma.ensures.1) (record {
      starts =
          putting_fails c.args.depth c.args.bytes.now c.args.at c.in_ok-end-2.end c.args.table.now c.plain_attribute.new.table f read
          (comma_fails c.args.depth c.args.bytes.now c.in_ok-end-2.end c.in_ok-next.next.token f c.in_ok-next.ensures.cuts l
          (fails_none (Value (Some c.args.depth)) [] c.args.bytes.now c.in_ok-next.next.token.end f c.in_err-item-in-Comma.ensures.fault));
      few = tt;
      heads = tt;
      on = tt;
      within = tt;
    })

pub returns-in_err-end-in-Comma : goal.returns-in_err-end-in-Comma
returns-in_err-end-in-Comma c =
    let same = rw c.in-None-2.is at c.in_ok-behind.ensures.none in
    let read : Putting c.args.depth c.args.bytes.now c.args.at c.in_ok-end-2.end c.args.table.now c.plain_attribute.new.table =
    rw same
    (putting_on c.args.depth c.args.bytes.now c.args.at c.items.end c.in_ok-end-2.end c.args.table.now c.items.table c.pass_absent.new.table c.items.invariant.read (c.in_ok-end-2.ensures.starts c.args.depth)) in
    let f = c.in_err-end-in-Comma.field-0.0 in
    let l = said (lexeme_of c.args.bytes.now c.in_ok-next.next.token) kinds.Comma tt (sym c.in-Comma.is ∙ c.in_ok-next.ensures.piece.seen) in
    rw (residual _ _ c.from_residual-in_err-end-in-Comma.ensures.1) (record {
      starts =
          putting_fails c.args.depth c.args.bytes.now c.args.at c.in_ok-end-2.end c.args.table.now c.plain_attribute.new.table f read
          (comma_fails c.args.depth c.args.bytes.now c.in_ok-end-2.end c.in_ok-next.next.token f c.in_ok-next.ensures.cuts l
          (after_fails (Value (Some c.args.depth)) [] c.args.bytes.now c.in_ok-next.next.token.end c.in_ok-item-in-Comma.item.token f c.in_ok-item-in-Comma.ensures.cuts c.in_err-end-in-Comma.ensures.start));
      few = tt;
      heads = tt;
      on = tt;
      within = tt;
    })

pub items-preserved : goal.items-preserved
items-preserved c =
    let i = c.items.invariant in
    let p = c.in_ok-end-2.ensures in
    let same = rw c.in-None-2.is at c.in_ok-behind.ensures.none in
    let read : Putting c.args.depth c.args.bytes.now c.args.at c.in_ok-end-2.end c.args.table.now c.plain_attribute.new.table =
    rw same
    (putting_on c.args.depth c.args.bytes.now c.args.at c.items.end c.in_ok-end-2.end c.args.table.now c.items.table c.pass_absent.new.table c.items.invariant.read (c.in_ok-end-2.ensures.starts c.args.depth)) in
    let few : length c.plain_attribute.new.table.starts.items + c.args.at ≤ length c.args.table.now.starts.items + c.in_ok-end-2.end = rw same (omega (arith, i.few, p.few)) in
    let heads : c.plain_attribute.new.table.heads.items ≡ c.args.table.now.heads.items = rw same (p.heads ∙ i.heads) in
    let t = c.in_ok-next.ensures in
    let u = c.in_ok-item-in-Comma.ensures in
    let l = said (lexeme_of c.args.bytes.now c.in_ok-next.next.token) kinds.Comma tt (sym c.in-Comma.is ∙ t.piece.seen) in
    let puts = c.in_ok-end-in-Comma.ensures.start in
    record {
      within = c.in_ok-end-in-Comma.ensures.within;
      on = omega (arith, i.on, p.on, t.on, t.piece.some, u.on, u.piece.some, c.in_ok-end-in-Comma.ensures.on);
      few =
          more_past c.args.table.now.starts.items c.plain_attribute.new.table.starts.items c.attribute-in-Comma.new.table.starts.items c.in_ok-item-in-Comma.item.token.start c.args.at c.in_ok-end-2.end c.in_ok-end-in-Comma.end few puts.2
          (omega (arith, t.on, t.piece.some, u.on, u.piece.some, c.in_ok-end-in-Comma.ensures.on));
      heads = c.in_ok-end-in-Comma.ensures.heads ∙ heads;
      read = putting_more c.args.depth c.args.bytes.now c.args.at c.in_ok-end-2.end c.in_ok-end-in-Comma.end c.in_ok-next.next.token c.in_ok-item-in-Comma.item.token c.args.table.now c.plain_attribute.new.table c.attribute-in-Comma.new.table read t.cuts l u.cuts puts;
    }

pub returns-in_default-kind : goal.returns-in_default-kind
returns-in_default-kind c =
    let same = rw c.in-None-2.is at c.in_ok-behind.ensures.none in
    let read : Putting c.args.depth c.args.bytes.now c.args.at c.in_ok-end-2.end c.args.table.now c.plain_attribute.new.table =
    rw same
    (putting_on c.args.depth c.args.bytes.now c.args.at c.items.end c.in_ok-end-2.end c.args.table.now c.items.table c.pass_absent.new.table c.items.invariant.read (c.in_ok-end-2.ensures.starts c.args.depth)) in
    let t = c.in_ok-next.next.token in
    record {
      starts =
          rw c.refused.ensures
          (putting_fails c.args.depth c.args.bytes.now c.args.at c.in_ok-end-2.end c.args.table.now c.plain_attribute.new.table (faults.BadStatement t.start) read
          (fails_refused (After (Some c.args.depth)) [] c.args.bytes.now c.in_ok-end-2.end t.start t c.in_ok-next.ensures.cuts
          (after_none (Some c.args.depth) (lexeme_of c.args.bytes.now t) c.in_ok-next.next.kind c.in_ok-next.ensures.piece.seen c.in_default-kind.not-Close c.in_default-kind.not-Comma) refl));
      few = tt;
      heads = tt;
      on = tt;
      within = tt;
    }

-- Readings of a buffer, one after another.
use Rattle.std.proofs.Common.{◌≡◌, ℕ, ◌+◌, ◌-◌, ◌<◌, ◌≤◌, true, false, List, [], ◌∷◌, ◌++◌, length, take, drop, get_or, refl, sym, ap, ◌∙◌, arith, append_assoc, add-one, drop-cons, subst}
use Rattle.std.proofs.lemmas.List.{append-nil, take-append-drop, drop-drop, length-take-le, length-drop}
use Rattle.http_frame.specs.declared.types.FrameFault.{FrameFault}
use Rattle.http_frame.specs.declared.chunks.Part.{Part}
use Rattle.http_frame.specs.declared.chunks.Part.TheVariants.{Data}
use Rattle.http_frame.specs.declared.chunks.ChunkStep.{ChunkStep}
use Rattle.http_frame.specs.declared.chunks.ChunkStep.TheVariants as to
use Rattle.http_frame.specs.declared.chunks.ChunkEnd.{ChunkEnd}
use Rattle.http_frame.specs.declared.chunks.ChunkEnd.TheVariants as end
use Rattle.http_frame.specs.declared.chunks.Taken.{Taken}
use Rattle.http_frame.specs.Chunks.{chunk_step, data_left, is_over, IsReading, IsTaken, IsOrdered, Advances}
use Rattle.http_frame.proofs.Reading.{IsStepped, byte_reads, data_reads}

pub advances_none : (bytes : List ℕ) (here : Taken) → here.end ≡ end.More → Advances bytes here bytes here
unfolding Advances
advances_none bytes here e = λ most text x. (
  [],
  refl,
  subst (λ (d : ChunkEnd). IsTaken most (text ++ []) (take here.chunks.filled bytes) here.chunks.part here.chunks.room d) (sym e)
      (subst (λ (t : List ℕ). IsReading most t (take here.chunks.filled bytes) here.chunks.part here.chunks.room) (sym (append-nil text)) x),
)

pub advances_on : (a b c : List ℕ) (start here next : Taken) → Advances a start b here → here.end ≡ end.More → Advances b here c next → Advances a start c next
unfolding Advances
advances_on a b c start here next f e g = λ most text x.
    let one = f most text x in
    let mid : IsReading most (text ++ one.0) (take here.chunks.filled b) here.chunks.part here.chunks.room =
    subst (λ (d : ChunkEnd). IsTaken most (text ++ one.0) (take here.chunks.filled b) here.chunks.part here.chunks.room d) e one.2 in
    let two = g most (text ++ one.0) mid in (
      one.0 ++ two.0,
      one.1 ∙ ap (λ z. one.0 ++ z) two.1 ∙ sym (append_assoc one.0 two.0 (drop next.at c)),
      subst (λ (t : List ℕ). IsTaken most t (take next.chunks.filled c) next.chunks.part next.chunks.room next.end) (append_assoc text one.0 two.0) two.2,
    )

pub data_advances : (before after : List ℕ) (here : Taken) (left count : ℕ) → here.chunks.part ≡ Data left → here.at + count ≤ length before → count ≤ left
    → take (here.chunks.filled + count) after ≡ take here.chunks.filled before ++ take count (drop here.at before) → drop (here.at + count) after ≡ drop (here.at + count) before
    → Advances before here after (record { chunks = record { part = Data (left - count); room = here.chunks.room; filled = here.chunks.filled + count }; at = here.at + count; end = end.More })
unfolding Advances
data_advances before after here left count part within le front rest = λ most text x.
    let more = take count (drop here.at before) in
    let left_there : length (drop here.at before) ≡ length before - here.at = length-drop here.at before in
    let enough : count ≤ length (drop here.at before) = omega arith in
    let reading : IsReading most text (take here.chunks.filled before) (Data left) here.chunks.room =
    subst (λ (p : Part). IsReading most text (take here.chunks.filled before) p here.chunks.room) part x in
    let next = data_reads most text (take here.chunks.filled before) more left count here.chunks.room (length-take-le count (drop here.at before) enough) le reading in (
      more,
      sym (take-append-drop count (drop here.at before)) ∙ ap (λ z. more ++ z) (drop-drop count here.at before ∙ sym rest),
      subst (λ (t : List ℕ). IsReading most (text ++ more) t (Data (left - count)) here.chunks.room) (sym front) next,
    )

byte_here : (bytes : List ℕ) (at : ℕ) → at < length bytes → drop at bytes ≡ (get_or bytes at 0 ∷ []) ++ drop (at + 1) bytes
byte_here bytes at lt = drop-cons bytes at 0 lt ∙ ap (λ n. get_or bytes at 0 ∷ drop n bytes) (sym (add-one at))

pub on_advances : (bytes : List ℕ) (here : Taken) (part : Part) (room : ℕ) → data_left here.chunks.part ≡ 0 → here.at < length bytes
    → to.On part room ≡ chunk_step here.chunks.part here.chunks.room (get_or bytes here.at 0)
    → Advances bytes here bytes (record { chunks = record { part = part; room = room; filled = here.chunks.filled }; at = here.at + 1; end = end.More })
unfolding Advances
on_advances bytes here part room none lt is = λ most text x. (
  get_or bytes here.at 0 ∷ [],
  byte_here bytes here.at lt,
  subst (λ (s : ChunkStep). IsStepped most (text ++ get_or bytes here.at 0 ∷ []) (take here.chunks.filled bytes) s) (sym is)
      (byte_reads most text (take here.chunks.filled bytes) here.chunks.part here.chunks.room (get_or bytes here.at 0) none x),
)

pub whole_advances : (bytes : List ℕ) (here : Taken) → data_left here.chunks.part ≡ 0 → here.at < length bytes
    → to.Whole ≡ chunk_step here.chunks.part here.chunks.room (get_or bytes here.at 0)
    → Advances bytes here bytes (record { chunks = here.chunks; at = here.at + 1; end = end.Whole })
unfolding Advances
whole_advances bytes here none lt is = λ most text x. (
  get_or bytes here.at 0 ∷ [],
  byte_here bytes here.at lt,
  subst (λ (s : ChunkStep). IsStepped most (text ++ get_or bytes here.at 0 ∷ []) (take here.chunks.filled bytes) s) (sym is)
      (byte_reads most text (take here.chunks.filled bytes) here.chunks.part here.chunks.room (get_or bytes here.at 0) none x),
)

pub fault_advances : (bytes : List ℕ) (here : Taken) (fault : FrameFault) → data_left here.chunks.part ≡ 0 → here.at < length bytes
    → to.Fault fault ≡ chunk_step here.chunks.part here.chunks.room (get_or bytes here.at 0)
    → Advances bytes here bytes (record { chunks = here.chunks; at = here.at + 1; end = end.Fault fault })
unfolding Advances
fault_advances bytes here fault none lt is = λ most text x. (
  get_or bytes here.at 0 ∷ [],
  byte_here bytes here.at lt,
  subst (λ (s : ChunkStep). IsStepped most (text ++ get_or bytes here.at 0 ∷ []) (take here.chunks.filled bytes) s) (sym is)
      (byte_reads most text (take here.chunks.filled bytes) here.chunks.part here.chunks.room (get_or bytes here.at 0) none x),
)

pub not_over : (e : ChunkEnd) → is_over e ≡ false → e ≡ end.More
not_over end.More x = refl
not_over end.Whole x = let bad : true ≡ false = x in cc
not_over (end.Fault fault) x = let bad : true ≡ false = x in cc

pub over : (e : ChunkEnd) → is_over e ≡ true → e ≡ end.More → ⊥
over e x is = let bad : false ≡ true = ap is_over (sym is) ∙ x in cc

pub ordered_at : (taken : Taken) (n m : ℕ) → m ≡ n → IsOrdered taken n → IsOrdered taken m
ordered_at taken n m e x = subst (λ (k : ℕ). IsOrdered taken k) (sym e) x

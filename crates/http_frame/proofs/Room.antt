-- So many bytes hold fewer fields than the parser has room for.
use Rattle.std.proofs.Common.{◌≡◌, ℕ, suc, ◌+◌, ◌*◌, ◌<◌, ◌≤◌, List, [], ◌∷◌, ◌++◌, length, sym, ap, ◌∙◌, arith, append_assoc}
use Rattle.std.specs.List.{flat_map}
use Rattle.std.proofs.lemmas.List.{append-nil, length-append}
use Rattle.std.proofs.lemmas.List.Elements.{All-head, All-tail}
use Rattle.httparse.specs.Grammar.{RequestHead, Field, IsField, LineEnd, crlf, lf, print_end, print_field, ReadsRequest, print_blank, print_version}
use Rattle.httparse.specs.Spans.{RequestExceeds}
use Rattle.httparse.proofs.PieceLemmas.{print_field-append}
use Rattle.httparse.proofs.GrammarLemmas.{print_request-append}
use Rattle.std.proofs.Common.{All}

end_some : (end : LineEnd) → 1 ≤ length (print_end end)
end_some crlf = omega arith
end_some lf = omega arith

field_long : (f : Field) → IsField f → 3 ≤ length (print_field f)
field_long f is =
    let whole : print_field f ≡ f.name ++ 58 ∷ (f.raw ++ print_end f.end) = sym (append-nil (print_field f)) ∙ print_field-append f [] ∙ ap (λ e. f.name ++ 58 ∷ (f.raw ++ e)) (append-nil (print_end f.end)) in
    three (length (print_field f)) (length f.name) (length (58 ∷ (f.raw ++ print_end f.end))) (length f.raw) (length (print_end f.end))
    (ap length whole ∙ length-append f.name _) (ap suc (length-append f.raw (print_end f.end))) is.name.0 (end_some f.end)
  where
    three : (w n s r e : ℕ) → w ≡ n + s → s ≡ suc (r + e) → 0 < n → 1 ≤ e → 3 ≤ w
    three w n s r e a b c d = omega arith

pub fields_long : (fs : List Field) → All IsField fs → 3 * length fs ≤ length (flat_map print_field fs)
fields_long [] all = omega arith
fields_long (f ∷ fs) all =
    let one = field_long f (All-head IsField f fs all) in
    let rest = fields_long fs (All-tail IsField f fs all) in
    omega (arith, length-append (print_field f) (flat_map print_field fs), one, rest)

pub request_long : (bytes : List ℕ) (h : RequestHead) (rest : List ℕ) → ReadsRequest bytes h rest → 3 * length h.fields ≤ length bytes
request_long bytes h rest reads =
    let fields = flat_map print_field h.fields in
    let before = print_blank h.blank ++ (h.method ++ 32 ∷ (h.target ++ 32 ∷ (print_version h.minor ++ print_end h.line_end))) in
    let after = print_end h.last ++ rest in
    let whole : bytes ≡ before ++ (fields ++ after) =
    reads.1 ∙ print_request-append h rest ∙ ap (λ x. print_blank h.blank ++ (h.method ++ 32 ∷ (h.target ++ 32 ∷ (print_version h.minor ++ (print_end h.line_end ++ x))))) (append_assoc fields (print_end h.last) rest)
    ∙ grouped (print_blank h.blank) h.method h.target (print_version h.minor) (print_end h.line_end) (fields ++ after) in
    let long = fields_long h.fields reads.0.fields in
    let l : length bytes ≡ length before + (length fields + length after) = ap length whole ∙ length-append before (fields ++ after) ∙ ap (λ n. length before + n) (length-append fields after) in
    omega arith
  where
    grouped : (a b c d e f : List ℕ) → a ++ (b ++ 32 ∷ (c ++ 32 ∷ (d ++ (e ++ f)))) ≡ (a ++ (b ++ 32 ∷ (c ++ 32 ∷ (d ++ e)))) ++ f
    grouped a b c d e f =
        sym (append_assoc a (b ++ 32 ∷ (c ++ 32 ∷ (d ++ e))) f ∙ ap (λ x. a ++ x) (append_assoc b (32 ∷ (c ++ 32 ∷ (d ++ e))) f
        ∙ ap (λ x. b ++ 32 ∷ x) (append_assoc c (32 ∷ (d ++ e)) f ∙ ap (λ x. c ++ 32 ∷ x) (append_assoc d e f))))

pub never_too_many : (room : ℕ) (front : List ℕ) → length front ≤ 16384 → RequestExceeds room front → room < 6000
never_too_many room front short (part, rest, whole, h, reads, over) =
    let long = request_long (part ++ print_end lf) h [] reads in
    let a : length (part ++ print_end lf) ≡ length part + 1 = length-append part (print_end lf) in
    let b : length front ≡ length part + length rest = ap length whole ∙ length-append part rest in
    omega arith

-- The lines of clashes, one after the other.
use Rattle.std.proofs.Common.{◌≡◌, ℕ, ◌+◌, ◌<◌, List, [], ◌∷◌, ◌++◌, length, take, drop, get_or, codes, Ok, refl, sym, ◌∙◌, ap, append_assoc, append-nil, subst}
use Rattle.std.proofs.lemmas.List.{take_more, take-append-drop}
use Rattle.std.proofs.lemmas.Grind.{flat_map-append}
use Rattle.std.specs.Fmt.{decimal}
use Rattle.bim_io.specs.StreamViews.{SinkSeen}
use Rattle.bim_model.specs.Snapshots.{Version}
use Rattle.bucket_check.specs.declared.pair.SetPair.{SetPair}
use Rattle.clash_publish.specs.Listed.{element_of}
use Rattle.batch_commands.specs.declared.block.Stop.{Stop}
use Rattle.batch_commands.specs.declared.block.Stop.TheVariants.{Memory}
use Rattle.batch_commands.specs.Reports.{clash_line, clash_lines}
use Rattle.batch_commands.specs.PrintedOutput.{Puts, Stops, WritesFront}
use Rattle.batch_commands.proofs.Blocks.{put_more, put_stopped, put_wanting}

-- a line by its words
pub line_of : (version : Version) (p : SetPair) (first first_guid second second_guid : List ℕ) → first ≡ (element_of version p.a).name → first_guid ≡ (element_of version p.a).element.guid.chars
    → second ≡ (element_of version p.b).name → second_guid ≡ (element_of version p.b).element.guid.chars
    → first ++ (codes " " ++ (first_guid ++ (codes " " ++ (second ++ (codes " " ++ (second_guid ++ (codes " " ++ (decimal p.rule ++ codes "\n")))))))) ≡ clash_line version p
line_of version p first first_guid second second_guid a b c d = rw (a, b, c, d) refl

-- one more line
lines_more : (version : Version) (pairs : List SetPair) (i : ℕ) (p d : SetPair) (text : List ℕ) → i < length pairs → p ≡ get_or pairs i d → text ≡ clash_line version p
    → clash_lines version (take i pairs) ++ text ≡ clash_lines version (take (i + 1) pairs)
lines_more version pairs i p d text h is e =
    ap (λ l. clash_lines version (take i pairs) ++ l) (e ∙ ap (clash_line version) is ∙ sym (append-nil (clash_line version (get_or pairs i d))))
    ∙ sym (flat_map-append (clash_line version) (take i pairs) (get_or pairs i d ∷ []))
    ∙ ap (clash_lines version) (sym (take_more pairs i d h))

-- the lines from a place on
lines_rest : (version : Version) (pairs : List SetPair) (i : ℕ) → clash_lines version pairs ≡ clash_lines version (take i pairs) ++ clash_lines version (drop i pairs)
lines_rest version pairs i =
    ap (clash_lines version) (sym (take-append-drop i pairs)) ∙ flat_map-append (clash_line version) (take i pairs) (drop i pairs)

-- all lines by the one of a place
lines_at : (version : Version) (pairs : List SetPair) (i : ℕ) (p d : SetPair) (text : List ℕ) → i < length pairs → p ≡ get_or pairs i d → text ≡ clash_line version p
    → clash_lines version pairs ≡ clash_lines version (take i pairs) ++ (text ++ clash_lines version (drop (i + 1) pairs))
lines_at version pairs i p d text h is e =
    lines_rest version pairs (i + 1)
    ∙ ap (λ l. l ++ clash_lines version (drop (i + 1) pairs)) (sym (lines_more version pairs i p d text h is e))
    ∙ append_assoc (clash_lines version (take i pairs)) text (clash_lines version (drop (i + 1) pairs))

-- ---- put into a block

module _ (version : Version) (pairs : List SetPair) (i : ℕ) (a b : SinkSeen) (x y : List ℕ) where
  -- memory runs out for the next line
  pub line_wanting : (all : List SetPair) → pairs ≡ all → Puts a b x y (clash_lines version (take i pairs)) (Ok tt)
      → WritesFront a b (x ++ clash_lines version all) × Stops a b Memory
  line_wanting all e p =
      put_wanting a b x y (clash_lines version (take i pairs)) (clash_lines version (drop i pairs)) (clash_lines version all) p
      (ap (clash_lines version) (sym e) ∙ lines_rest version pairs i)

  -- it can't be put
  pub line_stopped : (all : List SetPair) (c : SinkSeen) (p d : SetPair) (text : List ℕ) (stop : Stop) → pairs ≡ all → i < length pairs → p ≡ get_or pairs i d → text ≡ clash_line version p
      → Puts a b x y (clash_lines version (take i pairs)) (Ok tt) → WritesFront b c (y ++ text) × Stops b c stop → WritesFront a c (x ++ clash_lines version all) × Stops a c stop
  line_stopped all c p d text stop e h is t put f =
      put_stopped a b c x y (clash_lines version (take i pairs)) text (clash_lines version (drop (i + 1) pairs)) (clash_lines version all) stop put f
      (ap (clash_lines version) (sym e) ∙ lines_at version pairs i p d text h is t)

  -- it is put
  pub line_put : (c : SinkSeen) (z : List ℕ) (p d : SetPair) (text : List ℕ) → i < length pairs → p ≡ get_or pairs i d → text ≡ clash_line version p
      → Puts a b x y (clash_lines version (take i pairs)) (Ok tt) → Puts b c y z text (Ok tt) → Puts a c x z (clash_lines version (take (i + 1) pairs)) (Ok tt)
  line_put c z p d text h is t put q =
      subst (λ (s : List ℕ). Puts a c x z s (Ok tt)) (lines_more version pairs i p d text h is t) (put_more a b c x y z (clash_lines version (take i pairs)) text put q)

  -- all are
  pub lines_put : (all : List SetPair) → pairs ≡ all → take i pairs ≡ pairs → Puts a b x y (clash_lines version (take i pairs)) (Ok tt)
      → Puts a b x y (clash_lines version all) (Ok tt)
  lines_put all e whole put = subst (λ (l : List SetPair). Puts a b x y (clash_lines version l) (Ok tt)) (whole ∙ e) put

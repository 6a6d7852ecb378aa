-- A session by a caller alone over a new book is a run with one actor.
use Rattle.std.proofs.Common.{◌≡◌, ℕ, ◌+◌, [], length, Option, refl, sym, ◌∙◌, subst, arith}
use Rattle.bim_io.specs.StreamViews.{Outside, EndsEmpty}
use Rattle.book_history.specs.declared.limits.Settings.{Settings}
use Rattle.book_history.proofs.Histories.{one_none, none_before}
use Rattle.bim_session.specs.declared.end.SessionEnd.{SessionEnd}
use Rattle.bim_session.specs.declared.end.SessionEnd.TheVariants.{Memory}
use Rattle.bim_session.specs.Session.{Answered, Ends, behind, is_closed}
use Rattle.bim_session.specs.Replay.{beginning}
use Rattle.link_session.specs.CallerSessions.{Serves}
use Rattle.link_session.proofs.SoFar.{service_of}
use Rattle.link_session.proofs.Ending.{nothing_done}
use Rattle.server_commands.specs.WholeSessions.{ReplaysAlone}
use Rattle.server_commands.specs.inner.Turns.{ServerState}
use Rattle.server_commands.specs.inner.OneActor.{seen_alone, IsSettled, GoesAlone}
use Rattle.server_commands.proofs.OneActor.{laws_alone, stays_alone}

-- a book without a history
abbrev pub new_server : Settings → ServerState
new_server settings = record { settings = settings; history = []; turns = 0 }

pub settled_new : (settings : Settings) (s : ServerState) → s ≡ new_server settings → IsSettled settings s
settled_new settings s is =
    let first : IsSettled settings (new_server settings) = record { settings_are = refl; before = none_before 1 } in
    subst (λ (z : ServerState). IsSettled settings z) (sym is) first

pub replays_of : (settings : Settings) (buckets : Option ℕ) (first last : ServerState) (before after : Outside) (end : SessionEnd) → first ≡ new_server settings
    → Serves settings buckets (GoesAlone settings) (seen_alone first) (seen_alone last) before after end → ReplaysAlone settings buckets before after end
replays_of settings buckets first last before after end is serves =
    let s : Serves settings buckets (GoesAlone settings) (seen_alone (new_server settings)) (seen_alone last) before after end =
    subst (λ (z : ServerState). Serves settings buckets (GoesAlone settings) (seen_alone z) (seen_alone last) before after end) is serves in
    let x = s.session in
    let turns : last.turns ≡ 0 + length s.steps = s.goes_by.turns in
    let count : last.turns ≡ length s.steps = omega (arith, turns) in
    record {
      replays = record {
        input = s.input;
        moments = s.moments;
        output = s.output;
        history = last.history;
        steps = s.steps;
        exchanges = s.exchanges;
        empty = s.empty;
        run = s.goes_by.run [] refl one_none refl;
        one_thread = s.goes_by.one_thread;
        session = record {
          events = x.events;
          rest = x.rest;
          told = x.told;
          asked = x.asked;
          late = x.late;
          out = x.out;
          tail = x.tail;
          done = x.done;
          more = x.more;
          printed = x.printed;
          moments_are = x.moments_are;
          output_is = x.output_is;
          steps_are = x.steps_are;
          reads = x.reads;
          answered = subst (λ (n : ℕ). Answered (beginning settings buckets last.history n) x.events x.asked x.out x.done x.printed) count x.answered;
          ends = subst (λ (n : ℕ). Ends (record {
            standing = behind (beginning settings buckets last.history n) x.events x.done x.printed;
            closed = is_closed 0 x.events;
            ended = after.source.ended;
            rest = x.rest;
            told = x.told;
            moments = x.late;
            bytes = x.tail;
            steps = x.more;
          }) end) count x.ends;
        };
        as_needed = s.as_needed;
        read_fault = s.read_fault;
        write_fault = s.write_fault;
      };
      turns = λ n e. sym count ∙ s.turns n e;
    }

-- no book was made
pub nothing_replayed : (settings : Settings) (buckets : Option ℕ) (w : Outside) → EndsEmpty w.source → ReplaysAlone settings buckets w w (Memory 0)
nothing_replayed settings buckets w empty =
    let first : ServerState = new_server settings in
    let ready : IsSettled settings first = settled_new settings first refl in
    replays_of settings buckets first first w w (Memory 0) refl
    (nothing_done (service_of settings buckets (GoesAlone settings) (laws_alone settings buckets)) (seen_alone first) w (stays_alone settings first first ready refl) empty)

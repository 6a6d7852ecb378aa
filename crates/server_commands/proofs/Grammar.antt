-- What the parser of command lines finds in words, and what they say.
use Rattle.std.proofs.Common.{◌≡◌, ◌∙◌, ℕ, List, Option, codes, refl, ap, ap₂}
use Rattle.clap.specs.Words.{first_of, first_value, rows_of}
use Rattle.clap.specs.declared.parser.matches.Found.{Found}
use Rattle.clap.proofs.WalkLemmas.{first_value-rows}
use Rattle.command_words.specs.CommandOptions.{IsPlainCommand}
use Rattle.server_commands.specs.declared.replay_words.Time.{Time}
use Rattle.server_commands.specs.ReplayWords.{all_said, buckets_said, projects_said, replay_command, replay_said, time_said}

-- `replay` is a command whose parse is known
pub replay_is_plain : IsPlainCommand replay_command
unfolding replay_command
replay_is_plain = record { simple = refl; alone = refl; defaults = refl }

-- what the values of the three options say
pub values_said : (f : Found) (at buckets projects : Option (List ℕ)) (time : Option Time) (most : Option (Option ℕ)) (count : Option ℕ) → at ≡ first_value f (codes "at")
    → buckets ≡ first_value f (codes "buckets") → projects ≡ first_value f (codes "projects") → time ≡ time_said at → most ≡ buckets_said buckets → count ≡ projects_said projects
    → all_said time most count ≡ replay_said (rows_of f)
values_said f at buckets projects time most count at_is buckets_is projects_is time_is most_is count_is =
    ap₂ (λ t m. all_said t m count) (time_is ∙ ap time_said (at_is ∙ first_value-rows f (codes "at")))
    (most_is ∙ ap buckets_said (buckets_is ∙ first_value-rows f (codes "buckets")))
    ∙ ap (λ n. all_said (time_said (first_of (codes "at") (rows_of f))) (buckets_said (first_of (codes "buckets") (rows_of f))) n)
    (count_is ∙ ap projects_said (projects_is ∙ first_value-rows f (codes "projects")))

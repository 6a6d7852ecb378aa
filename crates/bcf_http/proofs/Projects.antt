-- Worked identifiers of projects.
use Rattle.std.proofs.Common.{◌≡◌, refl}
use Rattle.bim_model.specs.Identifiers.{identifier}
use Rattle.bcf_http.specs.ReplyKinds.{number_of}

the_third_project : number_of (identifier 3 0) ≡ 3
unfolding number_of
the_third_project = refl

a_topic_is_no_project : number_of (identifier 3 1) ≡ 0
unfolding number_of
a_topic_is_no_project = refl

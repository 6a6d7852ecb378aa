-- Worked rows of the table of routes.
use Rattle.std.proofs.Common.{◌≡◌, true, false, None, codes, refl}
use Rattle.matchit.proofs.OnLiterals.{matchit_on_literals}
use Rattle.bcf_viewpoints.specs.declared.part.ViewPart.TheVariants as part
use Rattle.http_routes.specs.declared.paths.RoutePath.TheVariants.{OfTopic, ClashTopic}
use Rattle.http_routes.specs.declared.paths.TopicRow.TheVariants as topic
use Rattle.http_routes.specs.Paths.{table, has_method}
use Rattle.http_routes.specs.Targets.{split_target, from_slash}
use Rattle.http_routes.specs.PathParameters.{identifier_in}
use Rattle.http_routes.specs.Resources.{place_of}

a_host_alone_names_nothing : place_of (codes "http://h?/") ≡ None
unfolding place_of split_target from_slash table matchit_on_literals
a_host_alone_names_nothing = refl

a_project_has_an_identifier : place_of (codes "/bcf/3.0/projects/1/topics") ≡ None
unfolding place_of split_target table identifier_in matchit_on_literals
a_project_has_an_identifier = refl

a_comment_may_be_replaced : has_method (OfTopic topic.Comment) (codes "PUT") ≡ true
a_comment_may_be_replaced = refl

a_part_of_a_viewpoint_is_only_read : has_method (OfTopic (topic.View part.Coloring)) (codes "DELETE") ≡ false
a_part_of_a_viewpoint_is_only_read = refl

a_topic_of_a_clash_is_only_made : has_method ClashTopic (codes "GET") ≡ false
a_topic_of_a_clash_is_only_made = refl

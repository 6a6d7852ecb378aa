use Rattle.std.proofs.Common.{sym, ◌∙◌}
use Rattle.http_routes.proofs.Texts.{ascii_is_text}
use Rattle.http_routes.proofs.routes.resource_at.Goals as goal

pub unreachable-requires : goal.unreachable-requires
unreachable-requires c =
    c.in-Err.ensures.cases.0 (ascii_is_text c.args.path.now (sym c.are_ascii.ensures ∙ c.if-not-are_ascii.false))

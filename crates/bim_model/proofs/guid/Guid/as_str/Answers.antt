use Rattle.bim_model.proofs.Ascii.{guid_is_text}
use Rattle.bim_model.proofs.guid.Guid.as_str.Goals as goal

pub from_utf8_unchecked-requires : goal.from_utf8_unchecked-requires
from_utf8_unchecked-requires c = guid_is_text c.args.self.now.chars c.requires

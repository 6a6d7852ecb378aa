use Rattle.ifc_elements.proofs.PlainGuids.{guid_read}
use Rattle.ifc_elements.proofs.texts.plain_guid.Goals as goal

pub returns : goal.returns
returns c = guid_read c.args.instance.now c.in_ok-value.value c.in_ok-spelled.spelled.now _ c.in_ok-value.ensures c.in_ok-spelled.ensures.words c.in_ok-spelled.ensures.guid c.copy_from_slice.ensures.after

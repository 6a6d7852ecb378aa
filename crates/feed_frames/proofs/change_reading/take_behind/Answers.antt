use Rattle.feed_frames.proofs.Admitted.{first_admitted, other_admitted}
use Rattle.feed_frames.proofs.change_reading.take_behind.Goals as goal

pub returns-then-kind-eq-UPLOAD : goal.returns-then-kind-eq-UPLOAD
returns-then-kind-eq-UPLOAD c = first_admitted _ _ _ _ c.if-kind-eq-UPLOAD.true c.take_upload.ensures

pub returns-else-kind-eq-UPLOAD : goal.returns-else-kind-eq-UPLOAD
returns-else-kind-eq-UPLOAD c = other_admitted _ _ _ _ c.if-kind-eq-UPLOAD.false c.take_other.ensures

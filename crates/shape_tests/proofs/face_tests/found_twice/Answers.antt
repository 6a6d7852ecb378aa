use Rattle.shape_tests.proofs.face_tests.found_twice.Goals as goal

pub has_bad_index-requires : goal.has_bad_index-requires
has_bad_index-requires c = c.new-learnt.ensures c.args.exchange.now

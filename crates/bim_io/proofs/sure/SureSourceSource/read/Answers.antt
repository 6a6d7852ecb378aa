use Rattle.std.proofs.Common.{Some, ap, length, ◌∙◌, drop, ◌+◌}
use Rattle.bim_io.proofs.Reading.{given_more, left_more, left_moves, left_is, over_empty, none_left}
use Rattle.bim_io.proofs.sure.SureSourceSource.read.Goals as goal

pub returns-clause-given : goal.returns-clause-given
returns-clause-given c =
    let bytes = rw (c.tail.ensures, c.as_slice.ensures) at c.copy_front-count.ensures.bytes in
    rw (← c.self.view_is) (ap Some (given_more c.self.inside.contents c.copy_front-count.new.room c.self.inside.at c.copy_front-count.result bytes))

pub returns-clause-left : goal.returns-clause-left
returns-clause-left c =
    let bytes = rw (c.tail.ensures, c.as_slice.ensures) at c.copy_front-count.ensures.bytes in
    let count = rw (c.tail.ensures, c.as_slice.ensures) at c.copy_front-count.ensures.count in
    let left = left_more c.self.inside.contents c.copy_front-count.new.room c.self.inside.at c.copy_front-count.result bytes in
    let over = rw c.copy_front-count.auto.room at c.is_over-self-inside.ensures in
    let none = over_empty c.self.inside.contents c.self.inside.at c.copy_front-count.result c.self.inside.most (length c.args.room.now) c.self.inside.ended c.is_over-self-inside.result c.self.invariant.1 count c.self.invariant.2 over in
    rw (← c.self.view_is) (
      ap Some (left_moves c.self.inside.ended c.is_over-self-inside.result _ _ _ c.self.invariant.2 none left),
      λ zero some. left_is c.is_over-self-inside.result (drop (c.self.inside.at + c.copy_front-count.result) c.self.inside.contents) none
          ∙ none_left c.self.inside.contents c.self.inside.at c.copy_front-count.result c.self.inside.most (length c.args.room.now) c.self.invariant.1 count zero (rw c.copy_front-count.auto.room at some),
    )

use Rattle.bucket_grid.proofs.Nested.{put_in, within}
use Rattle.bucket_grid.proofs.Blocks.{marked_at}
use Rattle.bucket_grid.proofs.lists.Lists.add.Goals as goal

pub invariant_of-self : goal.invariant_of-self
invariant_of-self c =
    marked_at (λ v. v.items) c.self.inside.lists.items c.self.inside.marks.items c.args.list c.push.new.self (within (λ v. v.items) c.self.inside.lists.items c.args.self.now c.args.list c.self.view_is c.requires) c.self.invariant

pub invariant_of-self-2 : goal.invariant_of-self-2
invariant_of-self-2 c =
    marked_at (λ v. v.items) c.self.inside.lists.items c.self.inside.marks.items c.args.list c.push.new.self (within (λ v. v.items) c.self.inside.lists.items c.args.self.now c.args.list c.self.view_is c.requires) c.self.invariant

pub returns : goal.returns
returns c =
    put_in (λ v. v.items) c.self.inside.lists.items c.args.self.now c.args.list c.args.number c.index_mut-2.result.now c.push.new.self c.self.view_is c.requires c.index_mut-2.ensures.value c.in_ok-push.ensures.items

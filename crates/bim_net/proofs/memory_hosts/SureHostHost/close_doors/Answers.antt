use Rattle.std.proofs.Common.{ap, refl}
use Rattle.bim_net.specs.Stores.{door_of}
use Rattle.bim_net.specs.Halls.{host_of}
use Rattle.bim_net.proofs.Keeping.{none_failed}
use Rattle.bim_net.proofs.memory_hosts.SureHostHost.close_doors.Goals as goal

pub returns-clause-host : goal.returns-clause-host
returns-clause-host c = rw (← c.self.view_is) (record {
  others = ap (λ h. host_of (λ d. door_of d 0) h c.self.inside.moment 0) c.close-failed.ensures.closed;
  failed = λ is. (let none = none_failed c.args.doors.items in cc);
  sound = λ is. refl;
})

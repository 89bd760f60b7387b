use Rattle.std.proofs.Common.{Err, ap}
use Rattle.case_types.specs.Arithmetic.Faults.{fault_of}
use Rattle.edge_flash.proofs.EndKinds.{none_of}
use Rattle.edge_flash.proofs.flash_places.FlashPlacesClassify.classify.Goals as goal

pub classified-requires : goal.classified-requires
classified-requires g c = record {
  flashed = record {
    accepted = none_of (fault_of c.case_at-case.result) (λ f e. cc ((c.in-Ok.ensures.refused f).1 e));
    certified = c.in-Ok.ensures.certified;
    lawful = c.in-Ok.ensures.lawful;
  };
}

pub returns-in-Err-Param-clause-said : goal.returns-in-Err-Param-clause-said
returns-in-Err-Param-clause-said g c = record {
  there = c.case_at-case.result;
  is_there = c.case_at-case.ensures;
  says = rw c.in-Err-Param.fault-is ((c.in-Err-Param.ensures.refused c.in-Err-Param.fault).0 (ap Err c.in-Err-Param.field-0-is));
}

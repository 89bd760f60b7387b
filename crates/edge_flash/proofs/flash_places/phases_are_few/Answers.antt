use Rattle.edge_flash.proofs.flash_places.phases_are_few.Goals as goal

pub returns : goal.returns
returns c = rw c.as_slice-phases.ensures.value at c.as_slice-phases.ensures.fits

use Rattle.cert_format.proofs.laws.head_is_sized.Goals as goal

pub returns : goal.returns
returns c =
    record {
      phases = rw c.as_slice.ensures.value at c.as_slice.ensures.fits;
      parts = rw c.as_slice.ensures.value at c.phases_are_sized.ensures;
      plane = c.potentials_are_four.ensures;
    }

-- What was said on a line, as it is looked up.
use Rattle.std.proofs.Common.{◌≡◌, ℕ, List, get_or, sym, ap, ◌∙◌, Option, Some, None}
use Rattle.std.specs.List.{slice_get}
use Rattle.std.specs.Option.{unwrap_or}
use Rattle.std.proofs.lemmas.Option.{get_or_from_slice_get, unwrap_or-slice_get}
use Rattle.cert_lines.specs.Lines.{Said}

pub there : (said : List Said) (i : ℕ) (s d : Said) → Some s ≡ slice_get said i → get_or said i d ≡ s
there said i s d e = get_or_from_slice_get said i s d (sym e)

pub not_there : (said : List Said) (i : ℕ) (d : Said) → None ≡ slice_get said i → get_or said i d ≡ d
not_there said i d e = sym (unwrap_or-slice_get said i d) ∙ ap (λ (o : Option Said). unwrap_or o d) (sym e)

-- What operations on forms that may not be there show, from what their operands do.
use Rattle.std.proofs.Common.{◌^◌, ◌≡◌, pos, ◌≤ℤ◌, ◌<ℤ◌, Option, Some}
use Rattle.log_laws.specs.Between.{Ends, IsBetween}
use Rattle.log_laws.specs.Fraction.{Fraction, inverse}
use Rattle.log_laws.specs.LogE.{HoldsLogE}
use Rattle.log_laws.specs.LogSum.{LogSum, added, scaled, opposite, constant, log_of}
use Rattle.slope_form.specs.Arithmetic.{both}
use Rattle.slope_form.specs.Forms.{Form, constant_form, sum_form, difference_form, product_form, quotient_form, log_form}
use Rattle.slope_form.specs.Meaning.{Steps, IsSloped, Means}
use Rattle.slope_form.proofs.Exports.{IsForm, both_some, constant_is_form, constant_means, difference_is_form, difference_means, difference_sloped, fraction_product_means, log_is_form, log_means, product_is_form, product_means, quotient_is_form, quotient_means, sum_is_form, sum_means, sum_sloped}
use Rattle.tangent_bound.specs.SlopeLows.{plus, minus, times, over, log_of_form}
use Rattle.tangent_bound.proofs.SlopeParts.{Shows, ShowsSlope}

pub slope_of_shows : {q : Option Form} {d : Steps} {u v : LogSum} → Shows q d u v → ShowsSlope q d u v
slope_of_shows s = record { form = s.form; sloped = λ h e. (s.means h e).sloped }

by_two : (P : Form → Type 0) (op : Form → Form → Option Form) (p q : Option Form) → ((f g h : Form) → p ≡ Some f → q ≡ Some g → op f g ≡ Some h → P h) → (h : Form) → both op p q ≡ Some h → P h
by_two P op p q k h e = let b = both_some op p q h e in k b.0 b.1 h b.2 b.3 b.4

pub shows_sum : {p q : Option Form} {d : Steps} {u v s t : LogSum} → Shows p d u v → Shows q d s t → Shows (plus p q) d (added u s) (added v t)
shows_sum {p} {q} {d} {u} {v} {s} {t} a b = record {
  form = by_two IsForm sum_form p q (λ f g h ef eg e. sum_is_form f g h e);
  means = by_two (λ h. Means h d (added u s) (added v t)) sum_form p q (λ f g h ef eg e. sum_means f g h d u v s t (a.form f ef) (b.form g eg) e (a.means f ef) (b.means g eg));
}

pub shows_difference : {p q : Option Form} {d : Steps} {u v s t : LogSum} → Shows p d u v → Shows q d s t → Shows (minus p q) d (added u (opposite s)) (added v (opposite t))
shows_difference {p} {q} {d} {u} {v} {s} {t} a b = record {
  form = by_two IsForm difference_form p q (λ f g h ef eg e. difference_is_form f g h e);
  means = by_two (λ h. Means h d (added u (opposite s)) (added v (opposite t))) difference_form p q
      (λ f g h ef eg e. difference_means f g h d u v s t (a.form f ef) (b.form g eg) e (a.means f ef) (b.means g eg));
}

pub slopes_sum : {p q : Option Form} {d : Steps} {u v s t : LogSum} → ShowsSlope p d u v → ShowsSlope q d s t → ShowsSlope (plus p q) d (added u s) (added v t)
slopes_sum {p} {q} {d} {u} {v} {s} {t} a b = record {
  form = by_two IsForm sum_form p q (λ f g h ef eg e. sum_is_form f g h e);
  sloped = by_two (λ h. IsSloped h d (added u s) (added v t)) sum_form p q (λ f g h ef eg e. sum_sloped f g h d u v s t (a.form f ef) (b.form g eg) e (a.sloped f ef) (b.sloped g eg));
}

pub slopes_difference : {p q : Option Form} {d : Steps} {u v s t : LogSum} → ShowsSlope p d u v → ShowsSlope q d s t → ShowsSlope (minus p q) d (added u (opposite s)) (added v (opposite t))
slopes_difference {p} {q} {d} {u} {v} {s} {t} a b = record {
  form = by_two IsForm difference_form p q (λ f g h ef eg e. difference_is_form f g h e);
  sloped = by_two (λ h. IsSloped h d (added u (opposite s)) (added v (opposite t))) difference_form p q
      (λ f g h ef eg e. difference_sloped f g h d u v s t (a.form f ef) (b.form g eg) e (a.sloped f ef) (b.sloped g eg));
}

pub shows_product : {p q : Option Form} {d : Steps} {u v : LogSum} (x y : Fraction) → Shows p d u v → Shows q d (constant x) (constant y) → Shows (times p q) d (scaled x u) (scaled y v)
shows_product {p} {q} {d} {u} {v} x y a b = record {
  form = by_two IsForm product_form p q (λ f g h ef eg e. product_is_form f g h e);
  means = by_two (λ h. Means h d (scaled x u) (scaled y v)) product_form p q (λ f g h ef eg e. product_means f g h d u v x y (a.form f ef) (b.form g eg) e (a.means f ef) (b.means g eg));
}

pub shows_fraction_product : {p q : Option Form} {d : Steps} {u v : LogSum} (x y : Fraction) → Shows p d (constant x) (constant y) → Shows q d u v → Shows (times p q) d (scaled x u) (scaled y v)
shows_fraction_product {p} {q} {d} {u} {v} x y a b = record {
  form = by_two IsForm product_form p q (λ f g h ef eg e. product_is_form f g h e);
  means = by_two (λ h. Means h d (scaled x u) (scaled y v)) product_form p q (λ f g h ef eg e. fraction_product_means f g h d x y u v (a.form f ef) (b.form g eg) e (a.means f ef) (b.means g eg));
}

pub shows_quotient : {p q : Option Form} {d : Steps} {u v : LogSum} (x y : Fraction) → Shows p d u v → Shows q d (constant x) (constant y) → Shows (over p q) d (scaled (inverse x) u) (scaled (inverse y) v)
shows_quotient {p} {q} {d} {u} {v} x y a b = record {
  form = by_two IsForm quotient_form p q (λ f g h ef eg e. quotient_is_form f g h e);
  means = by_two (λ h. Means h d (scaled (inverse x) u) (scaled (inverse y) v)) quotient_form p q (λ f g h ef eg e. quotient_means f g h d u v x y (a.form f ef) (b.form g eg) e (a.means f ef) (b.means g eg));
}

pub shows_log : {p : Option Form} {d : Steps} (e : Ends) (x y : Fraction) → HoldsLogE e → e.lo ≤ℤ e.hi → Shows p d (constant x) (constant y) → Shows (log_of_form e p) d (log_of x) (log_of y)
shows_log {p} {d} e x y he oe a = record {
  form = λ h q. (let b = both_some log_form p (Some e) h q in log_is_form b.0 h b.1 b.4);
  means = λ h q. (let b = both_some log_form p (Some e) h q in
      let same : b.1 ≡ e = cc in
      log_means b.0 h e d x y (a.form b.0 b.2) he oe (rw same at b.4) (a.means b.0 b.2));
}

-- a form that is there
pub shows_form : {d : Steps} {u v : LogSum} (f : Form) → IsForm f → Means f d u v → Shows (Some f) d u v
shows_form {d} {u} {v} f o m = record {
  form = λ h e. (let k : f ≡ h = cc in rw (← k) o);
  means = λ h e. (let k : f ≡ h = cc in rw (← k) m);
}

pub shows_constant : {d : Steps} (c : Ends) (x : Fraction) → c.lo ≤ℤ c.hi → c.hi <ℤ pos (2 ^ 62) → IsBetween c (2 ^ 40) x → Shows (Some (constant_form c)) d (constant x) (constant x)
shows_constant {d} c x o t b = shows_form (constant_form c) (constant_is_form c o t) (constant_means c d x b)

-- ends that hold a number
pub record Held (c : Ends) (x : Fraction) : Type 0 where
  pub ordered : c.lo ≤ℤ c.hi
  pub top : c.hi <ℤ pos (2 ^ 62)
  pub between : IsBetween c (2 ^ 40) x

pub held_shows : {d : Steps} {e : Ends} {x : Fraction} → Held e x → Shows (Some (constant_form e)) d (constant x) (constant x)
held_shows {d} {e} {x} h = shows_constant e x h.ordered h.top h.between

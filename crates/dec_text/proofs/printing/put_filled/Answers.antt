use Rattle.std.proofs.Common.{◌≡◌, ◌-◌, ◌≤◌, length, arith}
use Rattle.dec_text.proofs.Zeros.{decimal-short, zeros-more, zeros-none, length-zeros, filled-at_end}
use Rattle.dec_text.proofs.printing.put_filled.Goals as goal

pub push_str-requires : goal.push_str-requires
push_str-requires c =
    let long : length c.loop-i.text.bytes ≤ 48 =
    length-zeros c.loop-i.text.bytes c.args.text.now.bytes (c.loop-i._i - length c.format-digits.result.now) c.loop-i.invariant.filled c.requires.room (omega arith) in
    (omega arith, omega (arith, long))

pub loop-i-init : goal.loop-i-init
loop-i-init c = record {
  filled = zeros-none c.args.text.now.bytes (length c.format-digits.result.now);
  start = omega arith;
}

pub loop-i-preserved : goal.loop-i-preserved
loop-i-preserved c = record {
  filled = zeros-more c.loop-i.text.bytes c.push_str.new.self.bytes c.args.text.now.bytes c.loop-i._i (length c.format-digits.result.now)
      c.loop-i.invariant.start c.loop-i.invariant.filled c.push_str.ensures.bytes;
  start = omega arith;
}

pub push_str-requires-2 : goal.push_str-requires-2
push_str-requires-2 c =
    let short : length c.format-digits.result.now ≤ c.args.places =
    rw c.format-digits.ensures.text (decimal-short c.args.n c.args.places c.requires.some c.requires.few c.requires.fits) in
    let long : length c.loop-i.text.bytes ≤ 48 =
    length-zeros c.loop-i.text.bytes c.args.text.now.bytes (c.loop-i._i - length c.format-digits.result.now) c.loop-i.invariant.filled c.requires.room (omega arith) in
    (omega arith, omega (arith, long, short))

pub returns : goal.returns
returns c =
    let short : length c.format-digits.result.now ≤ c.args.places =
    rw c.format-digits.ensures.text (decimal-short c.args.n c.args.places c.requires.some c.requires.few c.requires.fits) in
    let end : c.loop-i._i ≡ c.args.places = omega (arith, short) in
    filled-at_end c.loop-i.text.bytes c.args.text.now.bytes c.push_str-2.new.self.bytes c.format-digits.result.now c.loop-i._i c.args.places c.args.n
    c.format-digits.ensures.text end c.loop-i.invariant.filled c.push_str-2.ensures.bytes

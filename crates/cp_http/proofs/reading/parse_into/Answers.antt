use Rattle.std.proofs.Common.{rules, arith, ap, tests}
use Rattle.std.specs.Option.{option_copied}
use Rattle.cp_http.proofs.HeadLemmas.{other_end, other_version, too_many, has_coding, bad_length, says}
use Rattle.cp_http.proofs.reading.parse_into.Goals as goal

pub returns-then-length-text : goal.returns-then-length-text
returns-then-length-text c = other_end c.args.text.now c.parse.new.self c.in-Ok-Complete.length (rw c.in-Ok-Complete.field-0-is at c.in-Ok-Complete.ensures.complete) c.if-length-text.true

pub returns-then-not-is_one : goal.returns-then-not-is_one
returns-then-not-is_one c = other_version c.args.text.now c.parse.new.self c.in-Ok-Complete.length (rw c.in-Ok-Complete.field-0-is at c.in-Ok-Complete.ensures.complete) (λ e. let h = c.is_one.ensures in let f = c.if-not-is_one.true in search (tests, rules))

pub returns-then-headers-gt64 : goal.returns-then-headers-gt64
returns-then-headers-gt64 c = too_many c.args.text.now c.parse.new.self c.in-Ok-Complete.length (rw c.in-Ok-Complete.field-0-is at c.in-Ok-Complete.ensures.complete) c.if-headers-gt64.true

pub returns-in-Some : goal.returns-in-Some
returns-in-Some c = has_coding c.args.text.now c.parse.new.self c.in-Ok-Complete.length _ _ (rw c.in-Ok-Complete.field-0-is at c.in-Ok-Complete.ensures.complete) c.in-Some.ensures

pub returns-in-None : goal.returns-in-None
returns-in-None c = bad_length c.args.text.now c.parse.new.self c.in-Ok-Complete.length (rw c.in-Ok-Complete.field-0-is at c.in-Ok-Complete.ensures.complete) c.in-None.ensures

pub returns-in-Some-content_length : goal.returns-in-Some-content_length
returns-in-Some-content_length c = says c.args.text.now c.parse.new.self c.in-Ok-Complete.length (rw c.in-Ok-Complete.field-0-is at c.in-Ok-Complete.ensures.complete) (record {
  no_return = c.if-text-eq13.false;
  no_feed = c.if-text-eq10.false;
  no_bare_feed = λ k bare. let h = c.has_bare_feed.ensures in let f = c.if-has_bare_feed.false in let w = (h.1 (k, bare)) in search (tests, rules);
  whole = omega (arith, c.if-length-text.false);
  version = let h = c.is_one.ensures in let f = c.if-not-is_one.false in search (tests, rules);
  few = c.if-headers-gt64.false;
  coding = c.in_default-find.ensures;
  lengths = c.in-Some-content_length.ensures.0;
}) _ _ _ _ (ap option_copied c.in-Some-Some.is-0) (ap option_copied c.in-Some-Some.is-1) c.in-Some-content_length.ensures.1 c.closes.ensures

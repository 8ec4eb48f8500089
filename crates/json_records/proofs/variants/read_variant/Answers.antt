use Rattle.std.proofs.Common.{◌≡◌, ◌∷◌, ◌<◌, length, Some, true, false, option_map, refl, sym, ap, ◌∙◌, subst, rules}
use Rattle.json.specs.Reads.{token_of}
use Rattle.serde_json.specs.Data.{Data, object, string}
use Rattle.json_records.specs.Reading.{data_of, is_object}
use Rattle.json_records.specs.Variants.{IsVariantOf}
use Rattle.json_records.proofs.Turns as turn
use Rattle.json_records.proofs.Named as named
use Rattle.json_records.proofs.variants.read_variant.Goals as goal

pub returns-in-String-clause-ok : goal.returns-in-String-clause-ok
returns-in-String-clause-ok g c = record {
  means = string c.in-String.name.now;
  read = ap (λ k. data_of c.args.depth (token_of k ∷ c.args.reader.now)) c.in-String.is ∙ turn.text_said c.args.depth c.in-String.name.now c.args.reader.now;
  made = c.bare.ensures;
}

pub returns-in_err-depth : goal.returns-in_err-depth
returns-in_err-depth g c =
    let failed = c.from_residual in
    record {
      ok = turn.no_answer _ failed.result failed.ensures.0;
      err = λ refused. c.in_err-depth.ensures.err (turn.same_error _ failed.ensures refused);
      shorter = turn.no_answer _ failed.result failed.ensures.0;
    }

pub returns-in_default-2 : goal.returns-in_default-2
returns-in_default-2 g c =
    let opened = c.in_ok-depth.ensures.ok in
    let nothing : (d : Data) × (data_of c.args.depth (token_of c.args.first ∷ c.args.reader.now) ≡ Some (d, c.open_object.new.reader)) × (is_object d ≡ false) = search rules in
    let other = named.no_variant c.args.first nothing.0 c.in_default.not-String (turn.starts c.args.depth (token_of c.args.first) c.args.reader.now c.open_object.new.reader nothing.0 nothing.1) nothing.2 in
    record {
      ok = record { means = nothing.0; read = nothing.1; made = g.K.Variant.law nothing.0 other };
      err = turn.never_refused;
      shorter = c.in_ok-depth.ensures.shorter;
    }

pub returns-in_err-name : goal.returns-in_err-name
returns-in_err-name g c =
    let l = c.loop-read in
    let v = l.invariant in
    let opened = turn.held _ _ c.in-Some.is c.in_ok-depth.ensures.ok in
    let failed = c.from_residual-in_err-name in
    record {
      ok = turn.no_answer _ failed.result failed.ensures.0;
      err = λ refused. turn.object_stop (token_of c.args.first) c.args.depth c.in-Some.depth c.args.reader.now opened.1 opened.0
          (turn.members_stop c.in-Some.depth c.args.reader.now l.reader v.found v.so_far (c.in_err-name.ensures.err refl c.in-Some.depth));
      shorter = turn.no_answer _ failed.result failed.ensures.0;
    }

pub returns-in_err-pass : goal.returns-in_err-pass
returns-in_err-pass g c =
    let l = c.loop-read in
    let v = l.invariant in
    let opened = turn.held _ _ c.in-Some.is c.in_ok-depth.ensures.ok in
    let s = token_of c.in-Some-2.first ∷ c.next_member.new.reader in
    let key = turn.held _ _ c.in-Some-2.is c.in_ok-name.ensures.ok in
    let failed = c.from_residual-in_err-pass in
    record {
      ok = turn.no_answer _ failed.result failed.ensures.0;
      err = λ refused. turn.object_stop (token_of c.args.first) c.args.depth c.in-Some.depth c.args.reader.now opened.1 opened.0
          (turn.member_stop c.in-Some.depth c.args.reader.now l.reader v.found v.so_far c.in-Some-2.name.now s key (c.in_err-pass.ensures.err (turn.same_error _ failed.ensures refused)));
      shorter = turn.no_answer _ failed.result failed.ensures.0;
    }

pub loop-read-preserved-then-is_other : goal.loop-read-preserved-then-is_other
loop-read-preserved-then-is_other g c =
    let l = c.loop-read in
    let s = token_of c.in-Some-2.first ∷ c.next_member.new.reader in
    let key = turn.held _ _ c.in-Some-2.is c.in_ok-name.ensures.ok in
    let done = c.in_ok-pass.ensures.ok in
    let less : length c.pass.new.reader < length l.reader = turn.less_than c.in_ok-pass.ensures.shorter c.in_ok-name.ensures.shorter in
    named.variant_stray g.K.Variant.form g.K.Variant.can c.in-Some.depth c.args.reader.now l.reader (option_map (λ s. s.now) l.before) l.strays l.read l.invariant
    c.in-Some-2.name.now s c.pass.new.reader l.read done.0 (named.told l.before c.in-Some-2.name.now true (sym c.is_other.ensures ∙ c.if-is_other.true)) key done.1 less

pub returns-in_err-read : goal.returns-in_err-read
returns-in_err-read g c =
    let l = c.loop-read in
    let v = l.invariant in
    let opened = turn.held _ _ c.in-Some.is c.in_ok-depth.ensures.ok in
    let s = token_of c.in-Some-2.first ∷ c.next_member.new.reader in
    let key = turn.held _ _ c.in-Some-2.is c.in_ok-name.ensures.ok in
    let failed = c.from_residual-in_err-read in
    record {
      ok = turn.no_answer _ failed.result failed.ensures.0;
      err = λ refused. turn.object_stop (token_of c.args.first) c.args.depth c.in-Some.depth c.args.reader.now opened.1 opened.0
          (turn.member_stop c.in-Some.depth c.args.reader.now l.reader v.found v.so_far c.in-Some-2.name.now s key (c.in_err-read.ensures.err (turn.same_error _ failed.ensures refused)));
      shorter = turn.no_answer _ failed.result failed.ensures.0;
    }

pub loop-read-preserved : goal.loop-read-preserved
loop-read-preserved g c =
    let l = c.loop-read in
    let s = token_of c.in-Some-2.first ∷ c.next_member.new.reader in
    let key = turn.held _ _ c.in-Some-2.is c.in_ok-name.ensures.ok in
    let done = c.in_ok-read.ensures in
    let less : length c.held.new.reader < length l.reader = turn.less_than done.shorter c.in_ok-name.ensures.shorter in
    named.variant_same g.K.Variant.form g.K.Variant.can c.in-Some.depth c.args.reader.now l.reader (option_map (λ s. s.now) l.before) l.strays l.read l.invariant
    c.in-Some-2.name.now s c.held.new.reader c.in_ok-read.read (named.told l.before c.in-Some-2.name.now false (sym c.is_other.ensures ∙ c.if-is_other.false)) key done.ok less

pub returns-then-strays : goal.returns-then-strays
returns-then-strays g c =
    let l = c.loop-read in
    let v = l.invariant in
    let opened = turn.held _ _ c.in-Some.is c.in_ok-depth.ensures.ok in
    let is = subst (λ b. IsVariantOf g.K.Variant.form g.K.Variant.can (option_map (λ s. s.now) l.before) b l.read v.found) c.if-strays.true v.is in
    record {
      ok = record {
        means = object v.found;
        read = turn.object_done (token_of c.args.first) c.args.depth c.in-Some.depth c.args.reader.now l.reader c.next_member.new.reader opened.1 v.found opened.0 v.so_far (turn.not_held _ _ c.in_default-3.is c.in_ok-name.ensures.ok);
        made = named.strays_made g.K.Variant.form g.K.Variant.can g.K.Variant.law (option_map (λ s. s.now) l.before) l.read v.found is;
      };
      err = turn.never_refused;
      shorter = turn.no_more v.so_far.shorter c.in_ok-name.ensures.shorter;
    }

pub returns : goal.returns
returns g c =
    let l = c.loop-read in
    let v = l.invariant in
    let opened = turn.held _ _ c.in-Some.is c.in_ok-depth.ensures.ok in
    let is = subst (λ b. IsVariantOf g.K.Variant.form g.K.Variant.can (option_map (λ s. s.now) l.before) b l.read v.found) c.if-strays.false v.is in
    record {
      ok = record {
        means = object v.found;
        read = turn.object_done (token_of c.args.first) c.args.depth c.in-Some.depth c.args.reader.now l.reader c.next_member.new.reader opened.1 v.found opened.0 v.so_far (turn.not_held _ _ c.in_default-3.is c.in_ok-name.ensures.ok);
        made = named.variant_made g.K.Variant.form g.K.Variant.can g.K.Variant.law (option_map (λ s. s.now) l.before) l.read v.found is;
      };
      err = turn.never_refused;
      shorter = turn.no_more v.so_far.shorter c.in_ok-name.ensures.shorter;
    }

pub loop-read-smaller-then-is_other : goal.loop-read-smaller-then-is_other
loop-read-smaller-then-is_other g c = turn.less_than c.in_ok-pass.ensures.shorter c.in_ok-name.ensures.shorter

pub loop-read-smaller : goal.loop-read-smaller
loop-read-smaller g c = turn.less_than c.in_ok-read.ensures.shorter c.in_ok-name.ensures.shorter

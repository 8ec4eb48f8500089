use Rattle.std.proofs.Common.{◌≡◌, option_map, sym, ◌∙◌, rules}
use Rattle.json_records.proofs.Rows as row
use Rattle.json_records.proofs.records.AndFields.take.Goals as goal

pub returns-then-is_same-clause-taken : goal.returns-then-is_same-clause-taken
returns-then-is_same-clause-taken g c = λ taken.
    let done = c.in_ok-self.ensures.ok in (
      done.means,
      done.read,
      row.puts_here c.args.names.now _ c.args.member.0.now g.K.Reads.can g.R.Fields.tests done.means (option_map g.K.Reads.form c.args.self.now.first)
          (option_map g.K.Reads.form c.in_ok-self.field-0) (g.R.Fields.held c.args.self.now.rest) c.requires (sym c.is_same.ensures ∙ c.if-is_same.true)
          (row.made_data g.K.Reads.form g.K.Reads.can c.in_ok-self.field-0 done.means done.made),
    )

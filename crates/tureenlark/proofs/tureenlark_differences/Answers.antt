-- Short records are refused, and 128 zeros put where only the plan is short; else the call is made of the plan that the bytes say. Only the
-- checker need believe this file.
use mathlib.Core.Path.{◌≡◌, ◌∙◌, ap, sym}
use Prim.Native.Nat.{◌≤◌}
use native.Mathlib.Omega.{arith}
use lib.ListN.{length, replicate}
use lib.Seq.{sets}
use Rattle.network.specs.Mask.{digit}
use Rattle.plan.specs.declared.Plan.{Plan}
use Rattle.plan.specs.Answer.{Answer}
use Rattle.plan.specs.Faults.{put_at}
use Rattle.differences.specs.Tabling.{difference_table}
use Rattle.differences.specs.Answers.{no_table, Differences, table_answer}
use Rattle.records.specs.Records.{plan_in}
use Rattle.answers.specs.Numbers.{table_number}
use Rattle.answers.specs.Tables.{table_bytes}
use Rattle.answers.proofs.TableLaws.{table_length_lem, zero_bytes}
use Rattle.answers.proofs.NumberLaws.{number_tabled}
use Rattle.tureenlark.specs.Library.{plan_short, short_fault, table_short, table_for}
use Rattle.tureenlark.proofs.LibraryLaws.{short, long, first_short, then_short, number_short, number_long, left_short, left_long}
use Rattle.tureenlark.proofs.LibraryLaws.{filled_short, filled_long, put_long}
use Rattle.tureenlark.proofs.tureenlark_differences.Goals as goal

pub returns-then-table-lt-LENGTH : goal.returns-then-table-lt-LENGTH
returns-then-table-lt-LENGTH c =
    let b = c.args.plan.now in
    let s = c.args.table.now in
    let m = c.args.values in
    let a = difference_table (plan_in b) m in
    let few = short 128 s c.if-table-lt-LENGTH.true in
    record {
      answer = c.refused.ensures ∙ number_short (table_short b s) a.fault (digit a.value.scheduled) (first_short (short_fault 128 s) (plan_short b) few);
      buffer = filled_short (short_fault 128 s) (table_for b m) s few;
    }

pub returns-then-plan-lt-LENGTH : goal.returns-then-plan-lt-LENGTH
returns-then-plan-lt-LENGTH c =
    let b = c.args.plan.now in
    let s = c.args.table.now in
    let m = c.args.values in
    let a = difference_table (plan_in b) m in
    let there = long 128 s c.if-table-lt-LENGTH.false in
    let few = short 400 b c.if-plan-lt-LENGTH.true in
    let zeros : replicate 128 0 ≡ table_for b m =
    sym zero_bytes ∙ left_short (plan_short b) (table_bytes a.value.rows) (table_bytes no_table.rows) few in
    let room : length (table_for b m) ≤ length s = rw (← zeros) c.if-table-lt-LENGTH.false in
    record {
      answer = c.refused-then-plan-lt-LENGTH.ensures ∙ number_short (table_short b s) a.fault (digit a.value.scheduled) (then_short (short_fault 128 s) (plan_short b) 10 there few);
      buffer = c.put_bytes.ensures ∙ ap (put_at s 0) zeros ∙ put_long (short_fault 128 s) (table_for b m) s there room;
    }

pub returns : goal.returns
returns c =
    let b = c.args.plan.now in
    let s = c.args.table.now in
    let m = c.args.values in
    let a = difference_table (plan_in b) m in
    let enough : 128 ≤ length s = c.if-table-lt-LENGTH.false in
    let there = long 128 s enough in
    let whole = long 400 b c.if-plan-lt-LENGTH.false in
    let t = c.difference_table-answer.result in
    let said : table_answer t ≡ a =
    c.difference_table-answer.ensures ∙ ap (λ (p : Plan). difference_table p m) c.plan_in.ensures in
    let bytes : table_bytes c.rows_of.result ≡ table_for b m =
    ap table_bytes (c.rows_of.ensures ∙ ap (λ (x : Answer Differences). x.value.rows) said)
    ∙ left_long (plan_short b) (table_bytes a.value.rows) (table_bytes no_table.rows) whole in
    let all = table_length_lem c.rows_of.result in
    let room : length (table_for b m) ≤ length s = rw (← bytes) (omega arith) in
    record {
      answer = c.number.ensures ∙ number_tabled t ∙ ap table_number said ∙ number_long (table_short b s) a.fault (digit a.value.scheduled) (then_short (short_fault 128 s) (plan_short b) 0 there whole);
      buffer = c.put_table.ensures ∙ ap (sets s 0) bytes ∙ filled_long (short_fault 128 s) (table_for b m) s there room;
    }

use Rattle.std.proofs.Common.{◌≡◌, ◌∷◌, ◌++◌, [], Err, sym, ap, ◌∙◌, subst}
use Rattle.std.specs.List.{AllByRecursion}
use Rattle.octet_account.specs.Seen.{flat_row, flat}
use Rattle.account_text.specs.declared.account_fault.AccountFault.TheVariants.{NotAccount}
use Rattle.account_text.specs.proving.Tokens.{IsSmallRow, row_first, rows_first}
use Rattle.account_text.proofs.Injective.{one_row}
use Rattle.account_text.proofs.Reading.{all_more, allowed_more, none_there, others_there, appended, row_longer, flat_more}
use Rattle.account_text.proofs.read.rows.Goals as goal

pub returns-in-Err-clause-refused : goal.returns-in-Err-clause-refused
returns-in-Err-clause-refused c = λ e rs ts small f.
    let same : c.in-Err.fault ≡ NotAccount = cc (e) in
    let test = c.loop-alloc-test.ensures in
    none_there row_first IsSmallRow c.loop-alloc.reader ts test.0
    (λ r us s g. c.in-Err.ensures.refused (ap Err same) r us s (test.1 ∙ g))
    (c.loop-alloc.invariant.left rs ts small f)

pub returns-in-Err-clause-stops : goal.returns-in-Err-clause-stops
returns-in-Err-clause-stops c = λ e.
    let same : c.in-Err.fault ≡ NotAccount = cc (e) in
    let test = c.loop-alloc-test.ensures in
    record {
      rest = c.loop-alloc.reader;
      small = c.loop-alloc.invariant.small;
      rows = c.loop-alloc.invariant.done;
      unclosed = test.0;
      no_row = λ r us s g. c.in-Err.ensures.refused (ap Err same) r us s (test.1 ∙ g);
    }

pub loop-alloc-smaller : goal.loop-alloc-smaller
loop-alloc-smaller c =
    let read = c.in-Ok.ensures.read in
    row_longer (flat_row c.in-Ok.row.listed) c.loop-alloc.reader c.row.new.reader (sym c.loop-alloc-test.ensures.1 ∙ read.1)

pub loop-alloc-preserved : goal.loop-alloc-preserved
loop-alloc-preserved c =
    let test = c.loop-alloc-test.ensures in
    let read = c.in-Ok.ensures.read in
    let r = flat_row c.in-Ok.row.listed in
    let found = flat c.loop-alloc.found.items in
    let pushed : flat c.push.new.self.items ≡ found ++ r ∷ [] =
    ap flat (appended _ _ _ _ c.push.ensures.items c.if-is_err.ensures.negation) ∙ flat_more c.loop-alloc.found.items c.in-Ok.row in
    record {
      small = subst (AllByRecursion IsSmallRow) (sym pushed) (allowed_more row_first IsSmallRow found r c.loop-alloc.invariant.small read.0);
      done = c.loop-alloc.invariant.done
          ∙ ap (λ us. rows_first found us) (sym test.1 ∙ read.1)
          ∙ sym (all_more row_first IsSmallRow found r c.row.new.reader)
          ∙ ap (λ rs. rows_first rs c.row.new.reader) (sym pushed);
      left = λ rs ts small e.
          others_there row_first IsSmallRow c.loop-alloc.reader c.row.new.reader ts r test.0
          (λ q us s f. (one_row q r us c.row.new.reader s read.0 (sym f ∙ sym test.1 ∙ read.1)).1)
          (c.loop-alloc.invariant.left rs ts small e);
    }

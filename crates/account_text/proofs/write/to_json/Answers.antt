use Rattle.std.proofs.Common.{sym, ap, ◌∙◌}
use Rattle.std.specs.Prelude.{string_bytes}
use Rattle.octet_account.specs.Seen.{flat}
use Rattle.account_text.specs.Text.{compact_text}
use Rattle.account_text.proofs.Written.{whole_tokens, printed, compact, reads_back}
use Rattle.account_text.proofs.write.to_json.Goals as goal

pub returns-in-Ok-clause-text : goal.returns-in-Ok-clause-text
returns-in-Ok-clause-text c = λ rs h.
    let own = flat c.rows.result.now in
    let none = c.in_ok-end_array.ensures.room.0 ∙ c.in_ok-rows.ensures.before ∙ c.in_ok-begin_array.ensures.room.0 ∙ c.new-out.ensures.before ∙ c.new.ensures.items in
    let ts = whole_tokens own c.new-out.result.tokens c.begin_array.new.self.tokens c.rows-2.new.out.tokens c.end_array.new.self.tokens
    c.new-out.ensures.tokens c.in_ok-begin_array.ensures.ok c.in_ok-rows.ensures.ok c.in_ok-end_array.ensures.ok in
    let s = printed (string_bytes c.in-Ok.text) c.end_array.new.self.before c.end_array.new.self.tokens none (ap (λ v. v.items) c.in-Ok.ensures.ok ∙ c.into_inner.ensures.items) in
    compact (string_bytes c.in-Ok.text) c.end_array.new.self.tokens own s ts ∙ ap compact_text (c.rows.ensures.are ∙ sym h.are)

pub returns-in-Ok-clause-reads_back : goal.returns-in-Ok-clause-reads_back
returns-in-Ok-clause-reads_back c =
    let own = flat c.rows.result.now in
    let none = c.in_ok-end_array.ensures.room.0 ∙ c.in_ok-rows.ensures.before ∙ c.in_ok-begin_array.ensures.room.0 ∙ c.new-out.ensures.before ∙ c.new.ensures.items in
    let ts = whole_tokens own c.new-out.result.tokens c.begin_array.new.self.tokens c.rows-2.new.out.tokens c.end_array.new.self.tokens
    c.new-out.ensures.tokens c.in_ok-begin_array.ensures.ok c.in_ok-rows.ensures.ok c.in_ok-end_array.ensures.ok in
    let s = printed (string_bytes c.in-Ok.text) c.end_array.new.self.before c.end_array.new.self.tokens none (ap (λ v. v.items) c.in-Ok.ensures.ok ∙ c.into_inner.ensures.items) in
    reads_back (string_bytes c.in-Ok.text) c.end_array.new.self.tokens own c.args.account.now c.rows.ensures s c.into_inner.ensures.reads_back ts

use Rattle.std.proofs.Common.{◌≡◌, sym, ap, ◌∙◌}
use Rattle.cw_verify.specs.Table.{brings, has_all, either_empty}
use Rattle.cw_verify.proofs.SlotMarks.{is_there, is_come, is_both}
use Rattle.cw_verify.proofs.row.shared_either.Goals as goal

pub returns-then-not-brings : goal.returns-then-not-brings
returns-then-not-brings c =
    let xs = c.args.row.value.items in
    let ys = c.args.more.now.value.items in
    let p : c.deref-2.result.now ≡ xs = c.deref-2.ensures.value ∙ ap (λ v. v.items) c.deref.ensures in
    let q : c.deref-4.result.now ≡ ys = c.deref-4.ensures.value ∙ ap (λ v. v.items) c.deref-3.ensures in
    is_there xs ys (ap (λ l. brings l ys) (sym p) ∙ ap (brings c.deref-2.result.now) (sym q) ∙ sym c.brings.ensures ∙ c.if-not-brings.true)

pub returns-then-has_all : goal.returns-then-has_all
returns-then-has_all c =
    let xs = c.args.row.value.items in
    let ys = c.args.more.now.value.items in
    let p : c.deref-2.result.now ≡ xs = c.deref-2.ensures.value ∙ ap (λ v. v.items) c.deref.ensures in
    let q : c.deref-4.result.now ≡ ys = c.deref-4.ensures.value ∙ ap (λ v. v.items) c.deref-3.ensures in
    let r : c.deref-6.result.now ≡ ys = c.deref-6.ensures.value ∙ ap (λ v. v.items) c.deref-5.ensures in
    let s : c.deref-8.result.now ≡ xs = c.deref-8.ensures.value ∙ ap (λ v. v.items) c.deref-7.ensures in
    is_come xs ys c.in_ok-more.more.value.items
    (ap (λ l. brings l ys) (sym p) ∙ ap (brings c.deref-2.result.now) (sym q) ∙ sym c.brings.ensures ∙ c.if-not-brings.false)
    (ap (λ l. has_all l xs) (sym r) ∙ ap (has_all c.deref-6.result.now) (sym s) ∙ sym c.has_all.ensures ∙ c.if-has_all.true)
    c.in_ok-more.ensures

pub returns : goal.returns
returns c =
    let xs = c.args.row.value.items in
    let ys = c.args.more.now.value.items in
    let p : c.deref-2.result.now ≡ xs = c.deref-2.ensures.value ∙ ap (λ v. v.items) c.deref.ensures in
    let q : c.deref-4.result.now ≡ ys = c.deref-4.ensures.value ∙ ap (λ v. v.items) c.deref-3.ensures in
    let r : c.deref-10.result.now ≡ xs = c.deref-10.ensures.value ∙ ap (λ v. v.items) c.deref-9.ensures in
    let s : c.deref-12.result.now ≡ ys = c.deref-12.ensures.value ∙ ap (λ v. v.items) c.deref-11.ensures in
    is_both xs ys c.in_ok-both-2.both.value.items
    (ap (λ l. brings l ys) (sym p) ∙ ap (brings c.deref-2.result.now) (sym q) ∙ sym c.brings.ensures ∙ c.if-not-brings.false)
    (ap (λ v. v.items) c.in_ok-both-2.ensures.ok ∙ c.in_ok-both.ensures ∙ ap (λ l. either_empty l c.deref-12.result.now) r ∙ ap (either_empty xs) s)

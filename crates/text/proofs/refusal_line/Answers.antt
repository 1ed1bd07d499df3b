-- `text::refusal_line` meets its contract: the word, then the number, then the line's end over the space.
-- Assumes nothing.
use Rattle.std.proofs.Common.{◌≡◌, ◌∷◌, ◌++◌, ◌+◌, drop, take, length, ap, ◌∙◌, rules}
use Rattle.spec.specs.Program.{decimal}
use Rattle.text.proofs.Lines.{refusal_put}
use Rattle.text.proofs.refusal_line.Goals as goal

pub returns : goal.returns
returns c =
    let args = c.args in
    let put = c.put-end in
    let r = put.result in
    let same : c.from.result ≡ args.number = search rules in
    let e = put.ensures.0 ∙ ap (λ n. length (decimal n) + 1) same in
    let p = put.ensures.2 ∙ ap (λ n. decimal n ++ (32 ∷ drop r (take 56 (drop 8 (c.copy_from_slice.new.self ++ drop 8 args.out.now))))) same in
    refusal_put args.number r put.new.out args.out.now (search rules) e _ c.copy_from_slice.ensures.after p

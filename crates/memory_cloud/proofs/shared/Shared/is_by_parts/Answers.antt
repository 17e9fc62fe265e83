use Rattle.std.proofs.Common.{rules, ◌≡◌, ◌++◌, ◌-◌, ◌∙◌, length, take, drop, bytes_eq}
use Rattle.std.proofs.lemmas.List.{take_rest}
use Rattle.memory_cloud.proofs.SharingLemmas.{second_differs, third_differs, last_tells}
use Rattle.memory_cloud.proofs.shared.Shared.is_by_parts.Goals as goal

pub returns-in_default-behind : goal.returns-in_default-behind
returns-in_default-behind c =
    let base = c.as_slice-base.result.now in
    let own = c.as_slice-own.result.now in
    let whole : c.args.self.now ≡ take c.self.inside.front base ++ (take c.self.inside.split own ++ (drop c.self.inside.back base ++ drop c.self.inside.split own)) = search rules in
    second_differs c.args.self.now c.args.bytes.now (take c.self.inside.front base) (take c.self.inside.split own) (drop c.self.inside.back base ++ drop c.self.inside.split own) c.in-Some.rest.now whole c.in-Some.ensures c.in_default-behind.ensures

pub returns-in_default-behind-2 : goal.returns-in_default-behind-2
returns-in_default-behind-2 c =
    let base = c.as_slice-base.result.now in
    let own = c.as_slice-own.result.now in
    let whole : c.args.self.now ≡ take c.self.inside.front base ++ (take c.self.inside.split own ++ (drop c.self.inside.back base ++ drop c.self.inside.split own)) = search rules in
    third_differs c.args.self.now c.args.bytes.now (take c.self.inside.front base) (take c.self.inside.split own) (drop c.self.inside.back base) (take (length base - c.self.inside.back) (drop c.self.inside.back base)) (drop c.self.inside.split own) c.in-Some.rest.now c.in-Some-behind.rest.now (take_rest base c.self.inside.back) whole c.in-Some.ensures c.in-Some-behind.ensures c.in_default-behind-2.ensures

pub returns : goal.returns
returns c =
    let base = c.as_slice-base.result.now in
    let own = c.as_slice-own.result.now in
    let whole : c.args.self.now ≡ take c.self.inside.front base ++ (take c.self.inside.split own ++ (drop c.self.inside.back base ++ drop c.self.inside.split own)) = search rules in
    let last = take (length own - c.self.inside.split) (drop c.self.inside.split own) in
    let told : c.eq.result ≡ bytes_eq last c.in-Some-behind-2.rest.now = search rules in
    told ∙ last_tells c.args.self.now c.args.bytes.now (take c.self.inside.front base) (take c.self.inside.split own) (drop c.self.inside.back base) (take (length base - c.self.inside.back) (drop c.self.inside.back base)) (drop c.self.inside.split own) last c.in-Some.rest.now c.in-Some-behind.rest.now c.in-Some-behind-2.rest.now (take_rest base c.self.inside.back) (take_rest own c.self.inside.split) whole c.in-Some.ensures c.in-Some-behind.ensures c.in-Some-behind-2.ensures

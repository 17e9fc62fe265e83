use Rattle.std.proofs.Common.{ap, ap₂, codes, Bool, true, false, ◌||◌, ◌≡◌, ◌∙◌}
use Rattle.std.proofs.lemmas.Result.{IfOk-weaker}
use Rattle.clap.specs.Words.{App, Rule, Shape, app_of, rule_of, with_rule, with_subcommand}
use Rattle.clap.specs.Simple.{app_of_fields}
use Rattle.clap.specs.declared.builder.arg.Arg.{Arg}
use Rattle.command_words.specs.Command.{dump_app, gen_app, load_app, replay_app, settle_app, shell_app, top_app, value_rule}
use Rattle.command_words.proofs.command.command.Goals as goal

abbrev no_name : App → App
no_name a = record a { top = record a.top { no_binary_name = true } }

abbrev no_help : App → App
no_help a = record a { top = record a.top { disable_help_subcommand = true } }

abbrev wanting : App → App
wanting a = record a { top = record a.top { subcommand_required = true } }

abbrev top_of : App → Shape
top_of a = a.top

abbrev must_be : Rule → Rule
must_be r = record r { required = true }

abbrev is_global : Arg → Bool
is_global a = a.global

pub returns : goal.returns
returns c =
    let number_is : rule_of c.required-number.result ≡ value_rule (codes "number") = ap rule_of c.required-number.ensures ∙ ap must_be c.new.ensures.rule in
    let number_own : is_global c.required-number.result ≡ false = ap is_global c.required-number.ensures ∙ c.new.ensures.optional.1 in
    let count_is : rule_of c.required-count.result ≡ value_rule (codes "count") = ap rule_of c.required-count.ensures ∙ ap must_be c.new-2.ensures.rule in
    let count_own : is_global c.required-count.result ≡ false = ap is_global c.required-count.ensures ∙ c.new-2.ensures.optional.1 in
    let client_is : rule_of c.required-client.result ≡ value_rule (codes "client") = ap rule_of c.required-client.ensures ∙ ap must_be c.new-4.ensures.rule in
    let client_own : is_global c.required-client.result ≡ false = ap is_global c.required-client.ensures ∙ c.new-4.ensures.optional.1 in
    let home_is : rule_of c.required-home.result ≡ value_rule (codes "dir") = ap rule_of c.required-home.ensures ∙ ap must_be c.new-5.ensures.rule in
    let home_own : is_global c.required-home.result ≡ false = ap is_global c.required-home.ensures ∙ c.new-5.ensures.optional.1 in
    let dir_is : rule_of c.required-dir.result ≡ value_rule (codes "dir") = ap rule_of c.required-dir.ensures ∙ ap must_be c.new-7.ensures.rule in
    let dir_own : is_global c.required-dir.result ≡ false = ap is_global c.required-dir.ensures ∙ c.new-7.ensures.optional.1 in
    let source_is : rule_of c.required-source.result ≡ value_rule (codes "dir") = ap rule_of c.required-source.ensures ∙ ap must_be c.new-9.ensures.rule in
    let source_own : is_global c.required-source.result ≡ false = ap is_global c.required-source.ensures ∙ c.new-9.ensures.optional.1 in
    let target_is : rule_of c.required-target.result ≡ value_rule (codes "dir") = ap rule_of c.required-target.ensures ∙ ap must_be c.new-11.ensures.rule in
    let target_own : is_global c.required-target.result ≡ false = ap is_global c.required-target.ensures ∙ c.new-11.ensures.optional.1 in
    let gen_first : app_of c.in_ok-arg.field-0 ≡ with_rule (app_of c.new-3.result) (value_rule (codes "number")) = c.in_ok-arg.ensures.shape number_own ∙ ap (with_rule (app_of c.new-3.result)) number_is in
    let gen_is : app_of c.in_ok-generate.generate ≡ gen_app = c.in_ok-generate.ensures.shape count_own
    ∙ ap₂ with_rule (gen_first ∙ ap (λ (a : App). with_rule a (value_rule (codes "number"))) c.new-3.ensures.app) count_is in
    let gen_own = c.in_ok-generate.ensures.globals ∙ ap₂ ◌||◌ (c.in_ok-arg.ensures.globals ∙ ap₂ ◌||◌ c.new-3.ensures.local number_own) count_own in
    let shell_first : app_of c.in_ok-arg-2.field-0 ≡ with_rule (app_of c.new-6.result) (value_rule (codes "client")) = c.in_ok-arg-2.ensures.shape client_own ∙ ap (with_rule (app_of c.new-6.result)) client_is in
    let shell_is : app_of c.in_ok-shell.shell ≡ shell_app = c.in_ok-shell.ensures.shape home_own
    ∙ ap₂ with_rule (shell_first ∙ ap (λ (a : App). with_rule a (value_rule (codes "client"))) c.new-6.ensures.app) home_is in
    let shell_own = c.in_ok-shell.ensures.globals ∙ ap₂ ◌||◌ (c.in_ok-arg-2.ensures.globals ∙ ap₂ ◌||◌ c.new-6.ensures.local client_own) home_own in
    let settle_is : app_of c.in_ok-settle.settle ≡ settle_app = c.in_ok-settle.ensures.shape dir_own ∙ ap₂ with_rule c.new-8.ensures.app dir_is in
    let settle_own = c.in_ok-settle.ensures.globals ∙ ap₂ ◌||◌ c.new-8.ensures.local dir_own in
    let dump_is : app_of c.in_ok-dump.dump ≡ dump_app = c.in_ok-dump.ensures.shape source_own ∙ ap₂ with_rule c.new-10.ensures.app source_is in
    let dump_own = c.in_ok-dump.ensures.globals ∙ ap₂ ◌||◌ c.new-10.ensures.local source_own in
    let load_is : app_of c.in_ok-load.load ≡ load_app = c.in_ok-load.ensures.shape target_own ∙ ap₂ with_rule c.new-12.ensures.app target_is in
    let load_own = c.in_ok-load.ensures.globals ∙ ap₂ ◌||◌ c.new-12.ensures.local target_own in
    let named : app_of c.no_binary_name.result ≡ no_name (app_of c.new-13.result) = ap app_of_fields c.no_binary_name.ensures in
    let helped : app_of c.disable_help_subcommand.result ≡ no_help (app_of c.no_binary_name.result) = ap app_of_fields c.disable_help_subcommand.ensures in
    let wants : app_of c.subcommand_required.result ≡ wanting (app_of c.disable_help_subcommand.result) = ap app_of_fields c.subcommand_required.ensures in
    let top_is : app_of c.subcommand_required.result ≡ top_app = wants ∙ ap wanting (helped ∙ ap no_help (named ∙ ap no_name c.new-13.ensures.app)) in
    let one : app_of c.in_ok-subcommand.field-0 ≡ with_subcommand top_app replay_app.top = c.in_ok-subcommand.ensures.shape c.new-14.ensures.local ∙ ap₂ with_subcommand top_is (ap top_of c.new-14.ensures.app) in
    let two_app : App = with_subcommand (with_subcommand top_app replay_app.top) gen_app.top in
    let two : app_of c.in_ok-subcommand-2.field-0 ≡ two_app = c.in_ok-subcommand-2.ensures.shape gen_own ∙ ap₂ with_subcommand one (ap top_of gen_is) in
    let three : app_of c.in_ok-subcommand-3.field-0 ≡ with_subcommand two_app shell_app.top = c.in_ok-subcommand-3.ensures.shape shell_own ∙ ap₂ with_subcommand two (ap top_of shell_is) in
    let four_app : App = with_subcommand (with_subcommand two_app shell_app.top) settle_app.top in
    let four : app_of c.in_ok-subcommand-4.field-0 ≡ four_app = c.in_ok-subcommand-4.ensures.shape settle_own ∙ ap₂ with_subcommand three (ap top_of settle_is) in
    let five : app_of c.in_ok-subcommand-5.field-0 ≡ with_subcommand four_app dump_app.top = c.in_ok-subcommand-5.ensures.shape dump_own ∙ ap₂ with_subcommand four (ap top_of dump_is) in
    IfOk-weaker c.subcommand-6.result _ _
    (λ r h. h.shape load_own ∙ ap₂ with_subcommand five (ap top_of load_is)) c.subcommand-6.ensures

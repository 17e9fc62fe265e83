-- The words of roles.
use Rattle.std.specs.Prelude.{ℕ, List, [], ◌∷◌, Option, codes}
use Rattle.std.specs.List.{find}
use Rattle.std.specs.Str.{bytes_eq}
use Rattle.ckpt_policy.specs.declared.role.Role.{Role}
use Rattle.ckpt_policy.specs.declared.role.Role.TheVariants.{Writer, Reader, Watchdog, Owner}

-- the spelling of a role
abbrev pub role_text : Role → List ℕ
role_text Writer = codes "writer"
role_text Reader = codes "reader"
role_text Watchdog = codes "watchdog"
role_text Owner = codes "owner"

-- all roles
abbrev pub roles : List Role
roles = Writer ∷ Reader ∷ Watchdog ∷ Owner ∷ []

-- the role that a word spells
abbrev pub role_of : List ℕ → Option Role
role_of word = find (λ role. bytes_eq (role_text role) word) roles

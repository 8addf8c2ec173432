-- A setting by its number (01; 02, #101). Holds: `number_of`, `parameters_of`; what question 1 gives, `Chosen`.
use Rattle.std.specs.Prelude.{◌≡◌, false, ℕ, Result, MatchResult}
use Rattle.code.specs.declared.Setting.{Setting}
use Rattle.code.specs.declared.SettingNumber.{SettingNumber}
use Rattle.code.specs.declared.SettingNumber.TheVariants.{One, Two, Three, Four, Five}
use Rattle.code.specs.declared.UnknownSetting.{UnknownSetting}
use Rattle.code.specs.Settings.{is_setting, setting_of}

-- The number that stands for it.
abbrev pub number_of : SettingNumber → ℕ
number_of One = 1
number_of Two = 2
number_of Three = 3
number_of Four = 4
number_of Five = 5

-- Its parameters, as the list of settings has them.
abbrev pub parameters_of : SettingNumber → Setting
parameters_of s = setting_of (number_of s)

-- The setting with this number, or that it is the number of none.
abbrev pub Chosen : ℕ → Result SettingNumber UnknownSetting → Type 0
Chosen number r = MatchResult r (λ s. number_of s ≡ number) (λ none. is_setting number ≡ false)

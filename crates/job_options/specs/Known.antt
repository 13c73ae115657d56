-- The language of options that is read: the first version, in which `cut` and `mode` are unknown keys.
use Rattle.text_model.specs.Language.{Language, first_language}

abbrev pub known_language : Language
known_language = first_language

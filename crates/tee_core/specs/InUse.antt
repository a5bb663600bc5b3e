-- The kind of volume in use.
use Rattle.epoch.specs.Forms.{Form}
use Rattle.v1_volume.specs.Versions.{volume_form}

-- how its leaves lie on a board, in both versions
abbrev pub form_in_use : Form
form_in_use = volume_form

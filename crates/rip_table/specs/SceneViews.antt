-- What a scene is, where its table means a window.
use Rattle.rip_table.specs.Window.{Window}
use Rattle.rip_table.specs.Scenes.{View}
use Rattle.rip_table.specs.declared.scene.Scene.{Scene}

abbrev pub view_of : {T : Type 0} → (T → Window) → Scene T → View
view_of window s = record { window = window s.table; episode = s.episode }
